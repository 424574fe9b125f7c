use Rattle.std.proofs.Common.{arith}
use Rattle.journal.proofs.Booking.{forgotten_valid, forgotten_places, forgotten_standing, forgotten_undone}
use Rattle.journal.proofs.journal.Journal.forget_undone.Goals as goal

pub invariant_of-self : goal.invariant_of-self
invariant_of-self c =
    let j = c.args.self.now in
    let s = j.sizes in
    let p = j.counted in
    record {
      sizes = (s.0, s.1, omega arith);
      valid = forgotten_valid j.entries j.flips j.standing j.undone (omega arith) j.valid;
      counted = (p.0, forgotten_places j.entries j.flips j.standing j.undone (omega arith) p.1);
    }

pub returns-clause-standing : goal.returns-clause-standing
returns-clause-standing c =
    let j = c.args.self.now in
    let s = j.sizes in
    forgotten_standing j.entries j.flips j.standing j.undone (omega arith)

pub returns-clause-undone : goal.returns-clause-undone
returns-clause-undone c =
    let j = c.args.self.now in
    let s = j.sizes in
    forgotten_undone j.entries j.flips j.standing j.undone (omega arith)
