use Rattle.std.proofs.Common.{◌≡◌, ◌+◌, ◌*◌, ◌≤◌, length, rules}
use Rattle.lattice.specs.Starts.{width_of, height_of}
use Rattle.boards.proofs.WholeBoards.{board_put}
use Rattle.boards.specs.Boards.{rows_text}
use Rattle.text.specs.Puts.{put_at}
use Rattle.boards.proofs.write.write_whole.Goals as goal

pub returns : goal.returns
returns c =
    let s = c.args.start.now in
    let cs = c.args.cells.now in
    let m = c.args.memory.now in
    let rows = c.put_start-rows_at.result in
    let second : c.put_rows.new.memory ≡ put_at c.put.new.memory rows (rows_text (width_of s) (height_of s) cs) = search rules in
    let room : rows + height_of s * (2 * width_of s + 5) ≤ length m = search rules in
    rw (c.height-height.ensures, c.width-width.ensures) (board_put s cs m c.put.new.memory c.put_rows.new.memory _ c.put_start-rows_at.new.line rows c.requires c.put_start-rows_at.ensures.memory c.put_start-rows_at.ensures.after c.put.ensures.memory second room)
