use Rattle.std.proofs.Common.{arith}
use Rattle.journal.proofs.Standing.{back_standing, back_undone}
use Rattle.journal.proofs.journal.Journal.step_back.Goals as goal

pub returns-clause-standing : goal.returns-clause-standing
returns-clause-standing c =
    let j = c.args.self.now in
    let s = j.sizes in
    back_standing j.entries j.flips j.standing j.undone (omega arith) (omega (arith, c.if-self-eq0.false))

pub returns-clause-undone : goal.returns-clause-undone
returns-clause-undone c =
    let j = c.args.self.now in
    let s = j.sizes in
    back_undone j.entries j.flips j.standing j.undone (omega arith) (omega (arith, c.if-self-eq0.false))
