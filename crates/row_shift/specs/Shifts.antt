-- The row shift: what becomes of one cell, and of a lattice.
--     comes_from way w x        the column from which the cell of column x comes, in a row of w cells
--     shifted way w h cs x y    the new value of the cell of column x and row y, from the cells cs before
--     row_forward               every row moved one cell east, if the lattice is whole
--     row_backward              every row moved one cell west, if it is
use Rattle.std.specs.Prelude.{ℕ, List}
use Rattle.lattice.specs.Cells.{cell}
use Rattle.lattice.specs.EveryCell.{every_cell}
use Rattle.lattice.specs.Lattice.{Lattice}
use Rattle.lattice.specs.Torus.{after, before}
use Rattle.row_shift.specs.declared.way.Way.{Way}
use Rattle.row_shift.specs.declared.way.Way.TheVariants.{East, West}

abbrev pub comes_from : Way → ℕ → ℕ → ℕ
comes_from East w x = before w x
comes_from West w x = after w x

abbrev pub shifted : Way → ℕ → ℕ → List ℕ → ℕ → ℕ → ℕ
shifted way w h cs x y = cell w cs (comes_from way w x) y

abbrev pub row_forward : Lattice → Lattice
row_forward = every_cell (shifted East)

abbrev pub row_backward : Lattice → Lattice
row_backward = every_cell (shifted West)
