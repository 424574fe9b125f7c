-- The rows before `row` are read, and their cells are written.
use Rattle.std.proofs.Common.{◌*◌, take}
use Rattle.boards.proofs.Rows.{RowsRead}
use Rattle.boards.proofs.read.fill_rows.Given as goal

abbrev pub invariant-loop-row : goal.invariant-loop-row
invariant-loop-row l = RowsRead l.width l.height l.initial.reader l.row l.reader (take (l.row * l.width) l.cells)
