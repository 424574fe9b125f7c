-- The four cells of one block, written in place. Cited by one inner function alone; what the map means is in Blocks.antt and Maps.antt. The
-- place of the corner is a, and b is to the right of it, c below it, and d to the right of c.
--     entry_at t cs a b c d         the entry of the table t for the presents at these places
--     block_written t cs a b c d    cs with the presents that this entry has
use Rattle.std.specs.Prelude.{ℕ, ◌+◌, ◌*◌, ◌/◌, ◌%◌, List, slice_index, slice_set}
use Rattle.lattice.specs.Cells.{present, with_present}

abbrev pub entry_at : List ℕ → List ℕ → ℕ → ℕ → ℕ → ℕ → ℕ
entry_at t cs a b c d = slice_index t (present (slice_index cs a) + 2 * present (slice_index cs b) + 4 * present (slice_index cs c) + 8 * present (slice_index cs d))

abbrev pub block_written : List ℕ → List ℕ → ℕ → ℕ → ℕ → ℕ → List ℕ
block_written t cs a b c d =
    let e = entry_at t cs a b c d in
    slice_set (slice_set (slice_set (slice_set cs a (with_present (slice_index cs a) (e % 2))) b (with_present (slice_index cs b) (e / 2 % 2))) c (with_present (slice_index cs c) (e / 4 % 2))) d (with_present (slice_index cs d) (e / 8 % 2))
