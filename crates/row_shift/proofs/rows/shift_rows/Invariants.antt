use Rattle.lattice.specs.Starts.{width_of}
use Rattle.row_shift.proofs.Progress.{RowsShifted}
use Rattle.row_shift.proofs.rows.shift_rows.Given as goal

abbrev pub invariant-loop-y : goal.invariant-loop-y
invariant-loop-y l = RowsShifted l.way (width_of l.start) l.y l.initial.cells l.cells
