-- The rows before `checked` are read, and have some cells.
use Rattle.std.proofs.Common.{ℕ, List}
use Rattle.boards.proofs.Rows.{RowsRead}
use Rattle.boards.proofs.check.check_rows.Given as goal

abbrev pub invariant-loop-checked : goal.invariant-loop-checked
invariant-loop-checked l = (front : List ℕ) × RowsRead l.width l.height l.initial.reader l.checked l.reader front
