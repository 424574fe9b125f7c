-- Flips of cells.
--     flip_refusal w h c r m     the cause for which a flip of column c, row r and mask m is refused on a lattice with w columns and h rows, or none
--     flipped f l                l with the mask of f XORed into the cell at its column and row; l itself, where l has no such cell
--     all_flipped fs l           l after the flips fs, in their order
use Rattle.std.specs.Prelude.{ℕ, ◌+◌, ◌*◌, ◌&&◌, List, set, fold, Option, Some, None, nat_lt, nat_le, bit_xor, if◌then◌else◌}
use Rattle.faults.specs.declared.run.BenchRefusal.{BenchRefusal}
use Rattle.faults.specs.declared.run.BenchRefusal.TheVariants.{OffLattice, Mask}
use Rattle.lattice.specs.Cells.{cell}
use Rattle.lattice.specs.Lattice.{Lattice, with_cells}
use Rattle.actions.specs.declared.flip.Flip.{Flip}

abbrev pub flip_refusal : ℕ → ℕ → ℕ → ℕ → ℕ → Option BenchRefusal
flip_refusal w h c r m = if nat_lt c w && nat_lt r h then (if nat_lt 0 m && nat_le m 255 then None else Some Mask) else Some OffLattice

abbrev pub flipped : Flip → Lattice → Lattice
flipped f l = with_cells l (set l.cells (f.row * l.width + f.col) (bit_xor (cell l.width l.cells f.col f.row) f.mask))

abbrev pub all_flipped : List Flip → Lattice → Lattice
all_flipped fs l = fold (λ m f. flipped f m) l fs
