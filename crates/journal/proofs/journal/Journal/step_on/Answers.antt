use Rattle.std.proofs.Common.{arith}
use Rattle.journal.proofs.Standing.{on_standing, on_undone, stays_standing, stays_undone}
use Rattle.journal.proofs.journal.Journal.step_on.Goals as goal

pub returns-then-self-eq0-clause-standing : goal.returns-then-self-eq0-clause-standing
returns-then-self-eq0-clause-standing c =
    let j = c.args.self.now in
    let s = j.sizes in
    stays_standing j.entries j.flips j.standing j.undone (omega arith) c.if-self-eq0.true

pub returns-then-self-eq0-clause-undone : goal.returns-then-self-eq0-clause-undone
returns-then-self-eq0-clause-undone c =
    let j = c.args.self.now in
    let s = j.sizes in
    stays_undone j.entries j.flips j.standing j.undone (omega arith) c.if-self-eq0.true

pub returns-clause-standing : goal.returns-clause-standing
returns-clause-standing c =
    let j = c.args.self.now in
    let s = j.sizes in
    on_standing j.entries j.flips j.standing j.undone (omega arith) (omega (arith, c.if-self-eq0.false))

pub returns-clause-undone : goal.returns-clause-undone
returns-clause-undone c =
    let j = c.args.self.now in
    let s = j.sizes in
    on_undone j.entries j.flips j.standing j.undone (omega arith) (omega (arith, c.if-self-eq0.false))
