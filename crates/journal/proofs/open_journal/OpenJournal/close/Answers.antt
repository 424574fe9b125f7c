use Rattle.std.proofs.Common.{◌++◌, take, sym, ap, ◌∙◌, arith}
use Rattle.std.proofs.lemmas.List.{length-take-le}
use Rattle.journal.proofs.Used.{places_left}
use Rattle.journal.proofs.open_journal.OpenJournal.close.Goals as goal
use Rattle.ledger.proofs.Edits.{edit_is}
use Rattle.journal.specs.Journals.{standing_of, places_of}

pub returns-then-self-gt0-clause-standing : goal.returns-then-self-gt0-clause-standing
returns-then-self-gt0-clause-standing c =
    let j = c.args.self.journal in
    let n = c.args.self.count in
    let left = places_left j in
    let room = c.args.self.room in
    let len = length-take-le n (places_of j) (omega arith) in
    c.push.ensures.standing ∙ ap (λ x. standing_of j ++ x) (sym (edit_is (take n (places_of j)) (omega (arith, c.if-self-gt0.true))))
