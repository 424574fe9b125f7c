-- A block, by its four cells. Assumes nothing.
use Rattle.std.specs.Prelude.{◌≡◌, ℕ, ◌+◌, ◌*◌, ◌<◌, List, slice_index, refl}
use native.Mathlib.Omega.{arith}
use Rattle.lattice.specs.Cells.{cell, present, with_present}
use Rattle.block_map.specs.Blocks.{offset, corner, block_number, bit, rewritten}
use Rattle.block_map.specs.Axis.{Pair}

pub bit_below : (i j e : ℕ) → bit i j e < 2
bit_below i j e = omega arith

pub rewritten_in : (t : List ℕ) (w h p : ℕ) (cs : List ℕ) (x y X Y i j : ℕ) → corner w p x ≡ X → corner h p y ≡ Y → offset p x ≡ i → offset p y ≡ j
    → rewritten t w h p cs x y ≡ with_present (cell w cs x y) (bit i j (slice_index t (block_number w h cs X Y)))
rewritten_in t w h p cs x y X Y i j cx cy ox oy = rw (cx, cy, ox, oy) refl

-- the number of a block, by its four cells
pub number_of : (w h p : ℕ) (cs : List ℕ) (X X' Y Y' : ℕ) → Pair w p X X' → Pair h p Y Y'
    → block_number w h cs X Y ≡ present (cell w cs X Y) + 2 * present (cell w cs X' Y) + 4 * present (cell w cs X Y') + 8 * present (cell w cs X' Y')
number_of w h p cs X X' Y Y' px py = rw (px.next, py.next) refl
