use Rattle.std.proofs.Common.{◌∙◌, arith}
use Rattle.lattice.specs.Starts.{width_of, height_of}
use Rattle.lattice.proofs.Places.{place_inside, by_place_from_cells}
use Rattle.lattice.proofs.Starts.{start_wide, start_high}
use Rattle.lattice.proofs.Torus.{side_some}
use Rattle.lift.specs.Progress.{answered}
use Rattle.lift.proofs.Progress.{answered_join}
use Rattle.lift.proofs.answers.answer_cells.Goals as goal

pub loop-y-preserved : goal.loop-y-preserved
loop-y-preserved g c =
    let s = c.args.start.now in
    answered_join (g.R.LocalRule.answer c.args.rule.now) (width_of s) (height_of s) (start_wide s) (start_high s) (omega arith) (omega arith) c.loop-y.invariant c.answer_row.ensures

pub returns : goal.returns
returns g c =
    let w = width_of c.args.start.now in
    let h = height_of c.args.start.now in
    by_place_from_cells w h (side_some w (start_wide c.args.start.now)) (answered (g.R.LocalRule.answer c.args.rule.now) w h c.args.cells.now) c.loop-y.cells (c.loop-y.auto.cells ∙ c.requires.whole) (λ x y x< y<.
    let inside = place_inside w c.loop-y.y x y x< (omega arith) in c.loop-y.invariant.done x y x< y< (omega arith) (omega arith))
