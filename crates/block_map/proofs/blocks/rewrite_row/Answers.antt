use Rattle.std.proofs.Common.{◌+◌, ◌-◌, arith}
use Rattle.lattice.proofs.Starts.{start_wide, start_high, start_phased}
use Rattle.block_map.proofs.Rows.{row_more, row_all, row_last}
use Rattle.block_map.proofs.blocks.rewrite_row.Goals.{else-loop-x-test, then-loop-x-test+else-x-end-x-gt2}
use Rattle.block_map.proofs.blocks.rewrite_row.Goals as goal

pub loop-x-preserved : goal.loop-x-preserved
loop-x-preserved c =
    let s = c.args.start.now in
    row_more _ _ _ _ (start_wide s) (start_high s) (start_phased s) c.args.y c.loop-x.x _ _ _ (omega arith) c.loop-x.invariant c.rewrite_block.ensures

pub returns-then-phase-eq1 : goal.returns-then-phase-eq1
returns-then-phase-eq1 c =
    let s = c.args.start.now in
    elim c.loop-x-test.branch [
      | else-loop-x-test w ↦ row_last _ _ _ _ (start_wide s) (start_high s) (start_phased s) c.args.y (c.width-width.result - 1) c.loop-x.x _ _ _ (omega arith) (omega arith) (omega arith) (rw w.cells-is c.loop-x.invariant) c.rewrite_block-then-phase-eq1.ensures
      | then-loop-x-test+else-x-end-x-gt2 w ↦ row_last _ _ _ _ (start_wide s) (start_high s) (start_phased s) c.args.y (c.width-width.result - 1) (c.loop-x.x + 2) _ _ _ (omega arith) (omega arith) (omega arith)
          (rw w.cells-is (row_more _ _ _ _ (start_wide s) (start_high s) (start_phased s) c.args.y c.loop-x.x _ _ _ (omega arith) c.loop-x.invariant w.rewrite_block.ensures)) c.rewrite_block-then-phase-eq1.ensures
    ]

pub returns-else-phase-eq1 : goal.returns-else-phase-eq1
returns-else-phase-eq1 c =
    let s = c.args.start.now in
    elim c.loop-x-test.branch [
      | else-loop-x-test w ↦ rw w.cells-is (row_all _ _ _ _ (start_wide s) (start_high s) (start_phased s) c.args.y _ _ _ (λ e. omega arith) (omega arith) c.loop-x.invariant)
      | then-loop-x-test+else-x-end-x-gt2 w ↦ rw w.cells-is (row_all _ _ _ _ (start_wide s) (start_high s) (start_phased s) c.args.y (c.loop-x.x + 2) _ _ (λ e. omega arith) (omega arith)
          (row_more _ _ _ _ (start_wide s) (start_high s) (start_phased s) c.args.y c.loop-x.x _ _ _ (omega arith) c.loop-x.invariant w.rewrite_block.ensures))
    ]
