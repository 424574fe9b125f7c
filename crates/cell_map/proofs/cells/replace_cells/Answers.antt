use Rattle.std.proofs.Common.{arith}
use Rattle.lattice.proofs.Passes.{pass_more}
use Rattle.cell_map.specs.Maps.{replaced}
use Rattle.cell_map.proofs.cells.replace_cells.Goals as goal

pub loop-cell-preserved : goal.loop-cell-preserved
loop-cell-preserved c =
    pass_more (replaced c.args.table.now) c.args.cells.now c.loop-cell.cell-index _ c.loop-cell.cells (omega arith) (omega arith) c.loop-cell.invariant c.replace.ensures
