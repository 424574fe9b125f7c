use Rattle.lattice.specs.Starts.{width_of, height_of}
use Rattle.lift.specs.Laws.{unlifted_high}
use Rattle.lift.proofs.TwoPasses.{cells_backward, low_alone}
use Rattle.lift.proofs.passes.backward_cells.Goals as goal

pub returns : goal.returns
returns g c =
    let f = g.R.LocalRule.answer c.args.rule.now in
    let s = c.args.start.now in
    let cs = c.args.cells.now in
    let all = cells_backward f (width_of s) (height_of s) cs _ _ c.exchange_cells.ensures c.answer_cells.ensures in
    record { cells = all; low = low_alone s cs _ c.requires.whole _ (unlifted_high f (width_of s) (height_of s) cs) all }
