use Rattle.std.proofs.Common.{arith}
use Rattle.lattice.proofs.Passes.{pass_more}
use Rattle.lift.specs.Moments.{exchanged}
use Rattle.lift.proofs.exchange.exchange_cells.Goals as goal

pub loop-cell-preserved : goal.loop-cell-preserved
loop-cell-preserved c =
    pass_more exchanged c.args.cells.now c.loop-cell.cell-index _ c.loop-cell.cells (omega arith) (omega arith) c.loop-cell.invariant c.exchange.ensures
