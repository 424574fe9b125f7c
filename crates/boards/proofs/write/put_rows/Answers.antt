use Rattle.boards.proofs.Puts.{row_step}
use Rattle.boards.proofs.write.put_rows.Goals as goal

pub loop-row-preserved : goal.loop-row-preserved
loop-row-preserved c = row_step c.args.memory.now c.args.cells.now c.args.at c.args.width c.args.height c.loop-row.row c.loop-row.end c.put_row-end.result c.loop-row.memory c.put_row-end.new.memory c.loop-row-test.true c.requires.count c.requires.room c.loop-row.invariant.0 c.loop-row.invariant.1 c.put_row-end.ensures.memory c.put_row-end.ensures.after
