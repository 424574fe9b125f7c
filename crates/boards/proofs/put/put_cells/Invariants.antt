-- The digits of the cells so far are written.
use Rattle.std.proofs.Common.{◌≡◌, ◌+◌, ◌*◌, take, flat_map}
use Rattle.boards.specs.Boards.{hex}
use Rattle.text.specs.Puts.{put_at}
use Rattle.boards.proofs.put.put_cells.Given as goal

abbrev pub invariant-loop-cell : goal.invariant-loop-cell
invariant-loop-cell l = (l.end ≡ l.fn.at + 2 * l.cell-index) × (l.memory ≡ put_at l.initial.memory l.fn.at (flat_map hex (take l.cell-index l.cells)))
