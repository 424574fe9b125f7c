-- The blocks of a lattice that a start record and its cells make up. Assumes nothing.
use Rattle.std.proofs.Common.{◌≡◌, ℕ, ◌+◌, ◌*◌, ◌/◌, ◌<◌, List, length, sym, arith}
use Rattle.lattice.specs.Cells.{cell, with_present, by_place, OnlyBelow}
use Rattle.lattice.specs.Starts.{width_of, height_of, phase_of}
use Rattle.lattice.specs.Torus.{after}
use Rattle.lattice.specs.declared.start.Start.{Start}
use Rattle.lattice.proofs.Places.{place_inside, only_below_by_place}
use Rattle.lattice.proofs.Starts.{start_wide, start_high, start_phased}
use Rattle.block_map.specs.Blocks.{offset, rewritten}
use Rattle.block_map.specs.Progress.{Rewrote, IsCorner, only}
use Rattle.block_map.specs.Writes.{block_written}
use Rattle.block_map.specs.Axis.{Pair, pair}
use Rattle.block_map.specs.Block.{bit_below}
use Rattle.block_map.proofs.Block.{rewrote_block}

present_alone : (c b : ℕ) → b < 2 → with_present c b / 2 ≡ c / 2
present_alone c b h = omega arith

pub only_presents : (t : List ℕ) (s : Start) (old new : List ℕ) → length old ≡ width_of s * height_of s → new ≡ by_place (width_of s) (height_of s) (rewritten t (width_of s) (height_of s) (phase_of s) old) → OnlyBelow 2 old new
only_presents t s old new whole e =
    let wide = start_wide s in
    rw e (only_below_by_place (width_of s) (height_of s) (omega arith) 2 (rewritten t (width_of s) (height_of s) (phase_of s) old) old whole
    (λ x y. present_alone (cell (width_of s) old x y) _ (bit_below (offset (phase_of s) x) (offset (phase_of s) y) _)))

-- w is the width, as the code has read it
module _ (s : Start) (w : ℕ) (read : w ≡ width_of s) (cs : List ℕ) (whole : length cs ≡ width_of s * height_of s)
    (x right y below : ℕ) (column : IsCorner (width_of s) (phase_of s) x) (next : right ≡ after (width_of s) x) (row : IsCorner (height_of s) (phase_of s) y) (under : below ≡ after (height_of s) y) where
  columns : Pair (width_of s) (phase_of s) x right
  columns = pair _ _ (start_wide s) (start_phased s) x right column (sym next)

  rows : Pair (height_of s) (phase_of s) y below
  rows = pair _ _ (start_high s) (start_phased s) y below row (sym under)

  inside : (u v : ℕ) → u < width_of s → v < height_of s → v * w + u < length cs
  inside u v u< v< = rw (read, whole) (place_inside (width_of s) (height_of s) u v u< v<)

  pub first_inside : y * w + x < length cs
  first_inside = inside x y column.0 row.0

  pub second_inside : y * w + right < length cs
  second_inside = inside right y columns.next_inside row.0

  pub third_inside : below * w + x < length cs
  third_inside = inside x below column.0 rows.next_inside

  pub fourth_inside : below * w + right < length cs
  fourth_inside = inside right below columns.next_inside rows.next_inside

  pub block_rewrote : (t new : List ℕ) → new ≡ block_written t cs (y * w + x) (y * w + right) (below * w + x) (below * w + right) → Rewrote t (width_of s) (height_of s) (phase_of s) (only x y) cs new
  block_rewrote t new written = rw (written, read) (rewrote_block t (width_of s) (height_of s) (phase_of s) cs whole x right y below columns rows)
