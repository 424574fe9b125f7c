use Rattle.std.proofs.Common.{◌<◌, ◌∷◌, [], take, drop, sym, ap, ◌∙◌, arith}
use Rattle.actions.specs.Actions.{Edit, action_of}
use Rattle.journal.proofs.Standing.{next_read, none_undone, read_step, read_edit, part_behind}
use Rattle.journal.proofs.journal.Journal.next.Goals as goal
use Rattle.journal.proofs.journal.Journal.next.Goals.{in-Step, in-Edit}

pub returns-then-self-eq0 : goal.returns-then-self-eq0
returns-then-self-eq0 c =
    let j = c.args.self.now in
    let s = j.sizes in
    none_undone j.entries j.flips j.standing j.undone (omega arith) c.if-self-eq0.true

pub returns : goal.returns
returns c =
    let j = c.args.self.now in
    let s = j.sizes in
    let some : 0 < j.undone = omega (arith, c.if-self-eq0.false) in
    let next = next_read j.entries j.flips j.standing j.undone (omega arith) c.index-self-self.result some in
    elim c.match-entry.branch [
      | in-Step w ↦ ap (λ x. action_of x ∷ []) w.result-is ∙ ap (λ x. x ∷ []) (sym (read_step _ _ _ w.in-Step.is)) ∙ sym next
      | in-Edit w ↦ ap (λ x. action_of x ∷ []) w.result-is
          ∙ ap (λ x. x ∷ []) (part_behind j.flips j.used _ w.in-Edit.len w.from.ensures ∙ ap (λ k. Edit (take w.in-Edit.len (drop k j.flips))) j.counted.0 ∙ sym (read_edit _ w.in-Edit.len _ w.in-Edit.is))
          ∙ sym next
    ]
