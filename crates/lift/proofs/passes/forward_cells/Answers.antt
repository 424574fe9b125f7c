use Rattle.lattice.specs.Starts.{width_of, height_of}
use Rattle.lift.specs.Laws.{lifted_high}
use Rattle.lift.proofs.TwoPasses.{cells_forward, low_alone}
use Rattle.lift.proofs.passes.forward_cells.Goals as goal

pub returns : goal.returns
returns g c =
    let f = g.R.LocalRule.answer c.args.rule.now in
    let s = c.args.start.now in
    let cs = c.args.cells.now in
    let all = cells_forward f (width_of s) (height_of s) cs _ _ c.answer_cells.ensures c.exchange_cells.ensures in
    record { cells = all; low = low_alone s cs _ c.requires.whole _ (lifted_high f (width_of s) (height_of s) cs) all }
