use Rattle.std.proofs.Common.{◌*◌}
use Rattle.lattice.specs.Starts.{width_of, height_of}
use Rattle.lift.specs.Progress.{Answered}
use Rattle.lift.proofs.answers.answer_cells.Given as goal

abbrev pub invariant-loop-y : goal.invariant-loop-y
invariant-loop-y g l = Answered (g.R.LocalRule.answer l.rule) (width_of l.start) (height_of l.start) 0 (l.y * width_of l.start) l.initial.cells l.cells
