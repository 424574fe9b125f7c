use Rattle.std.proofs.Common.{◌≡◌, get_or, arith, rules, refl}
use Rattle.boards.proofs.Puts.{cell_put}
use Rattle.boards.specs.Boards.{hex}
use Rattle.text.specs.Puts.{put_at}
use Rattle.boards.proofs.put.put_cells.Goals as goal

pub loop-cell-preserved : goal.loop-cell-preserved
loop-cell-preserved c =
    let cs = c.args.cells.now in
    let i = c.loop-cell.cell-index in
    let here : c.put-end.new.memory ≡ put_at c.loop-cell.memory c.loop-cell.end (hex (get_or cs i 0)) = search rules in
    (omega arith, cell_put c.args.memory.now cs c.args.at i c.loop-cell.end c.loop-cell.memory c.put-end.new.memory (get_or cs i 0) c.loop-cell-test.true c.requires c.loop-cell.invariant.0 c.loop-cell.invariant.1 refl here)
