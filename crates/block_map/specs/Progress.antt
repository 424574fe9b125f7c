-- The work half done: some blocks are rewritten, and the others are as they were. Cited by inner functions alone; what the map means is in
-- Blocks.antt and Maps.antt.
--     Rewrote t w h p done old new    the blocks with a corner (x, y) for which `done` is true are rewritten by the table t, and no others
--     RewroteAt t s done old new      the same, with sides and phase from the start record s
--     only X Y                        the block with the corner (X, Y)
--     in_row Y                        the blocks with their corner in row Y
--     IsCorner n p x                  along one axis, x is the first of its block
use Rattle.std.specs.Prelude.{◌≡◌, ℕ, ◌<◌, Bool, cond, ◌&&◌, List, length, ◌==◌}
use Rattle.lattice.specs.Cells.{cell}
use Rattle.lattice.specs.Starts.{width_of, height_of, phase_of}
use Rattle.lattice.specs.declared.start.Start.{Start}
use Rattle.block_map.specs.Blocks.{offset, corner, rewritten}

pub record Rewrote (t : List ℕ) (w h p : ℕ) (done : ℕ → ℕ → Bool) (old new : List ℕ) : Type 0 where
  pub count : length new ≡ length old
  pub cells : (x y : ℕ) → x < w → y < h → cell w new x y ≡ cond (done (corner w p x) (corner h p y)) (rewritten t w h p old x y) (cell w old x y)

abbrev pub RewroteAt : List ℕ → Start → (ℕ → ℕ → Bool) → List ℕ → List ℕ → Type 0
RewroteAt t s done old new = Rewrote t (width_of s) (height_of s) (phase_of s) done old new

abbrev pub only : ℕ → ℕ → ℕ → ℕ → Bool
only X Y x y = x == X && y == Y

abbrev pub in_row : ℕ → ℕ → ℕ → Bool
in_row Y x y = y == Y

abbrev pub IsCorner : ℕ → ℕ → ℕ → Type 0
IsCorner n p x = (x < n) × (offset p x ≡ 0)
