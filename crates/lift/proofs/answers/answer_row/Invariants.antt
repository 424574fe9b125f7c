use Rattle.lattice.specs.Starts.{width_of, height_of}
use Rattle.lift.proofs.Rows.{RowUpTo}
use Rattle.lift.proofs.answers.answer_row.Given as goal

abbrev pub invariant-loop-x : goal.invariant-loop-x
invariant-loop-x g l = RowUpTo (g.R.LocalRule.answer l.rule) (width_of l.start) (height_of l.start) l.y l.x l.initial.cells l.cells l.west l.here
