use Rattle.std.proofs.Common.{◌+◌, ap, arith}
use Rattle.lattice.specs.Starts.{held}
use Rattle.lattice.proofs.Starts.{start_wide, start_high, start_phased}
use Rattle.block_map.proofs.Rows.{rows_more, rows_all}
use Rattle.block_map.proofs.Started.{only_presents}
use Rattle.block_map.proofs.blocks.rewrite_blocks.Goals as goal

pub loop-y-preserved : goal.loop-y-preserved
loop-y-preserved c =
    let s = c.args.start.now in
    rows_more _ _ _ _ (start_wide s) (start_high s) (start_phased s) c.loop-y.y _ _ _ (omega arith) c.loop-y.invariant c.rewrite_row.ensures

pub returns : goal.returns
returns c =
    let s = c.args.start.now in
    let cells = rows_all _ _ _ _ (start_wide s) (start_high s) (start_phased s) _ _ _ c.requires.whole (omega arith) c.loop-y.invariant in
    record { cells = ap (held s) cells; presents = only_presents c.args.table.now s c.args.cells.now _ c.requires.whole cells }

pub returns-after-y-height : goal.returns-after-y-height
returns-after-y-height c =
    let s = c.args.start.now in
    let through = rows_more _ _ _ _ (start_wide s) (start_high s) (start_phased s) c.loop-y.y _ _ _ (omega arith) c.loop-y.invariant c.rewrite_row.ensures in
    let cells = rows_all _ _ _ _ (start_wide s) (start_high s) (start_phased s) (c.loop-y.y + 2) _ _ c.requires.whole (omega arith) through in
    record { cells = ap (held s) cells; presents = only_presents c.args.table.now s c.args.cells.now _ c.requires.whole cells }
