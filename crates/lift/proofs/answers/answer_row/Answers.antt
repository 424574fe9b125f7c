use Rattle.std.proofs.Common.{◌≡◌, ◌+◌, ◌*◌, rules, arith}
use Rattle.lattice.specs.Starts.{width_of}
use Rattle.lattice.proofs.Starts.{start_wide, start_high}
use Rattle.lift.proofs.Rows.{row_more}
use Rattle.lift.proofs.answers.answer_row.Goals as goal

pub loop-x-preserved : goal.loop-x-preserved
loop-x-preserved g c = row_more (start_wide c.args.start.now) (start_high c.args.start.now) c.requires.row c.requires.whole (omega arith) (search rules) c.loop-x.invariant (cc) (cc)

pub returns : goal.returns
returns g c =
    let all : c.args.y * width_of c.args.start.now + c.loop-x.x ≡ (c.args.y + 1) * width_of c.args.start.now = omega arith in
    rw all at c.loop-x.invariant.done
