-- Functions that compute a new value for every cell from the cells before, and keep the phase. Here g w h cs x y is the new value of the cell
-- in column x and row y: w and h are the sides, and cs are the cells before.
--     each_cell g l    the cells of l after that
--     every_cell g     the lattice with these cells, if it is whole; otherwise the lattice as it is
use Rattle.std.specs.Prelude.{ℕ, List}
use Rattle.lattice.specs.Cells.{by_place}
use Rattle.lattice.specs.Lattice.{Lattice, with_cells, if_whole}

abbrev pub each_cell : (ℕ → ℕ → List ℕ → ℕ → ℕ → ℕ) → Lattice → List ℕ
each_cell g l = by_place l.width l.height (g l.width l.height l.cells)

abbrev pub every_cell : (ℕ → ℕ → List ℕ → ℕ → ℕ → ℕ) → Lattice → Lattice
every_cell g = if_whole (λ l. with_cells l (each_cell g l))
