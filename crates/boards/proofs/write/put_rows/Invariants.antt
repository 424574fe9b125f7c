-- The lines of the rows so far are written.
use Rattle.std.proofs.Common.{◌≡◌, ◌+◌, ◌*◌}
use Rattle.boards.specs.Boards.{rows_text}
use Rattle.text.specs.Puts.{put_at}
use Rattle.boards.proofs.write.put_rows.Given as goal

abbrev pub invariant-loop-row : goal.invariant-loop-row
invariant-loop-row l = (l.end ≡ l.fn.at + l.row * (2 * l.width + 5)) × (l.memory ≡ put_at l.initial.memory l.fn.at (rows_text l.width l.row l.cells))
