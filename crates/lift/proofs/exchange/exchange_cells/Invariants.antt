use Rattle.lattice.proofs.Passes.{PassedTo}
use Rattle.lift.specs.Moments.{exchanged}
use Rattle.lift.proofs.exchange.exchange_cells.Given as goal

abbrev pub invariant-loop-cell : goal.invariant-loop-cell
invariant-loop-cell l = PassedTo exchanged l.initial.cells l.cell-index l.cells
