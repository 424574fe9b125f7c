use Rattle.std.proofs.Common.{◌-◌, ◌<◌, ◌∷◌, [], take, sym, ap, ◌∙◌, arith}
use Rattle.actions.specs.Actions.{action_of}
use Rattle.journal.proofs.Standing.{but_last, last_of_first, read_step, read_edit, places_before, part_before}
use Rattle.journal.proofs.backwards.Backwards.next.Goals as goal
use Rattle.journal.proofs.backwards.Backwards.next.Goals.{in-Step, in-Edit}
use Rattle.journal.specs.Views.{places, all_places}

pub returns-clause-given : goal.returns-clause-given
returns-clause-given c =
    let b = c.args.self.now in
    let j = b.journal.now in
    let s = j.sizes in
    let some : 0 < b.count = omega (arith, c.if-self-eq0.false) in
    let last = last_of_first j.entries j.flips j.standing j.undone (omega arith) b.count b.inside c.index-self-self.result some in
    elim c.match-entry.branch [
      | in-Step w ↦ ap (λ x. action_of x ∷ []) w.result-is ∙ ap (λ x. x ∷ []) (sym (read_step _ _ _ w.in-Step.is)) ∙ sym last
      | in-Edit w ↦ ap (λ x. action_of x ∷ []) w.result-is
          ∙ ap (λ x. x ∷ []) (part_before j.flips (all_places (take (b.count - 1) j.entries)) b.end _ w.in-Edit.field-0 (c.places.ensures ∙ ap places w.in-Edit.is) (places_before j.entries b.count w.in-Edit.field-0 c.index-self-self.result some (omega (arith, b.inside)) w.in-Edit.is ∙ sym b.places)
          ∙ sym (read_edit _ w.in-Edit.field-0 _ w.in-Edit.is))
          ∙ sym last
    ]

pub returns-clause-left : goal.returns-clause-left
returns-clause-left c =
    let b = c.args.self.now in
    let j = b.journal.now in
    let s = j.sizes in
    but_last j.entries j.flips j.standing j.undone (omega arith) b.count b.inside
