use Rattle.std.proofs.Common.{◌∙◌, rules, arith}
use Rattle.lattice.specs.Starts.{width_of, height_of}
use Rattle.lattice.proofs.Places.{by_place_from_cells}
use Rattle.lattice.proofs.Starts.{start_wide}
use Rattle.lattice.proofs.Torus.{side_some}
use Rattle.row_shift.proofs.Progress.{rows_more}
use Rattle.row_shift.proofs.rows.shift_rows.Goals as goal

pub loop-y-preserved : goal.loop-y-preserved
loop-y-preserved c = rows_more _ c.loop-y.y _ _ c.loop-y.cells _ (cc) (omega arith) (search rules) (search rules) c.args.way (start_wide c.args.start.now) c.shift.ensures c.loop-y.invariant

pub returns : goal.returns
returns c =
    let s = c.args.start.now in
    by_place_from_cells (width_of s) (height_of s) (side_some (width_of s) (start_wide s)) _ c.loop-y.cells (c.loop-y.auto.cells ∙ c.requires.whole) (λ x y x< y<. c.loop-y.invariant.done y (omega arith) x x<)
