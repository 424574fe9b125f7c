use Rattle.lattice.proofs.Passes.{PassedTo}
use Rattle.cell_map.specs.Maps.{replaced}
use Rattle.cell_map.proofs.cells.replace_cells.Given as goal

abbrev pub invariant-loop-cell : goal.invariant-loop-cell
invariant-loop-cell l = PassedTo (replaced l.table) l.initial.cells l.cell-index l.cells
