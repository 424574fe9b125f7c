use Rattle.block_map.proofs.Started.{block_rewrote}
use Rattle.block_map.proofs.blocks.rewrite_block.Goals as goal

pub returns : goal.returns
returns c =
    let p = c.requires in
    block_rewrote c.args.start.now _ c.width-width.ensures _ p.whole _ _ _ _ p.column p.right p.row p.below _ _ c.rewrite_cells.ensures
