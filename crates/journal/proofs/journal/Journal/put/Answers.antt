use Rattle.std.proofs.Common.{◌≡◌, ℕ, ◌+◌, ◌≤◌, ◌++◌, [], ◌∷◌, drop, take, set, sym, ap, ◌∙◌, arith}
use Rattle.actions.specs.declared.flip.Flip.{Flip}
use Rattle.journal.proofs.Booking.{put_all, put_place}
use Rattle.journal.proofs.Used.{used_is}
use Rattle.journal.proofs.journal.Journal.put.Goals as goal
use Rattle.journal.specs.Journals.{undone_of}
use Rattle.journal.specs.Views.{read_all}
use Rattle.journal.specs.declared.journal.Journal.{Journal}
use Rattle.ledger.specs.Ledgers.{entries}

kept : (j : Journal) (k : ℕ) (x : Flip) → undone_of j ≡ [] → j.used ≤ k → read_all (take (j.standing + j.undone) j.entries) (set j.flips k x) ≡ read_all (take (j.standing + j.undone) j.entries) j.flips
kept j k x none behind = let s = j.sizes in let p = j.counted in put_all j.entries j.flips j.standing j.undone k x (omega arith) (omega (arith, p.0)) none

pub returns-clause-standing : goal.returns-clause-standing
returns-clause-standing c = ap (take c.args.self.now.standing) (kept c.args.self.now _ c.args.flip c.requires.nothing_undone (omega (arith, c.used.ensures, used_is c.args.self.now)))

pub returns-clause-undone : goal.returns-clause-undone
returns-clause-undone c = ap (drop c.args.self.now.standing) (kept c.args.self.now _ c.args.flip c.requires.nothing_undone (omega (arith, c.used.ensures, used_is c.args.self.now))) ∙ c.requires.nothing_undone

pub returns-clause-places : goal.returns-clause-places
returns-clause-places c =
    let j = c.args.self.now in
    let s = j.sizes in
    let at = c.args.at in
    let x = c.args.flip in
    let used = c.used.result in
    ap (λ acts. take (at + 1) (drop (entries acts) (set j.flips (used + at) x))) (returns-clause-standing c)
    ∙ ap (λ n. take (at + 1) (drop n (set j.flips (used + at) x))) (sym c.used.ensures)
    ∙ put_place j.flips used at x (omega (arith, c.used.ensures, c.requires.room))
    ∙ ap (λ n. take at (drop n j.flips) ++ (x ∷ [])) c.used.ensures
