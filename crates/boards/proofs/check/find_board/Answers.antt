use Rattle.std.proofs.Common.{◌≡◌, Ok, ap, rules}
use Rattle.text.specs.Wholes.{whole}
use Rattle.boards.proofs.Found.{found}
use Rattle.boards.proofs.check.find_board.Goals as goal

pub returns : goal.returns
returns c =
    let good : whole c.args.first_line c.args.text.now ≡ Ok tt = search rules in
    let given = c.in_ok-start.ensures in
    rw c.position.ensures (found c.args.first_line c.args.text.now c.new-reader.result c.check_lines.new.reader c.in_ok-start.start given.0.0 good (ap (λ b. b.now) c.new-reader.ensures.lent) c.new-reader.ensures.position c.new-reader.ensures.line given.0.1 given.1)
