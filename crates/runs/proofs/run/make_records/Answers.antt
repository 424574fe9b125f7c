use Rattle.std.proofs.Common.{Ok, length, ◌∙◌, sym, ap, subst}
use Rattle.any_bench.specs.AnyBenches.{any_map, any_ledger, any_handed}
use Rattle.any_bench.specs.Calls.{made_if}
use Rattle.any_bench.specs.Scenes.{scene_of}
use Rattle.runs.proofs.RunSteps.{same_records, called, refused_by, taken_by, one_made, one_refused}
use Rattle.runs.proofs.run.make_records.Goals as goal
use Rattle.scripts.specs.Reading.{left_of, LeftAfter, MovedBy}

pub returns-in-Some-clause-scene : goal.returns-in-Some-clause-scene
returns-in-Some-clause-scene g c rs is =
    let F = g.M.Map.forward in
    let G = g.M.Map.backward in
    let i = c.loop-made.invariant in
    let b = c.loop-made.bench in
    let t = scene_of b c.loop-made.cells in
    let h = c.call-answer.ensures in
    let x = c.in-Ok-Some.record in
    let len = ap length (same_records (left_of c.args.records) rs c.requires.0 is c.requires.1) ∙ c.requires.2 in
    let now = i.1 rs is len in
    let given = subst (λ o. LeftAfter c.loop-made.records (Ok o) c.next_record.new.self) c.in-Ok-Some.field-0-is c.in-Ok-Some.ensures.left in
    let moved = subst (λ o. MovedBy c.loop-made.records (Ok o) c.next_record.new.self) c.in-Ok-Some.field-0-is c.in-Ok-Some.ensures.moved in
    let cells = h.cells ∙ ap (λ m. made_if (F m) (G m) x (any_ledger b) (any_handed b c.loop-made.cells)) i.0 in
    let refused = refused_by c.call-answer.result.1 c.line-line.result c.in-Some.fault (sym c.fault_of.ensures ∙ c.in-Some.is) in
    one_refused (F (any_map c.args.bench)) (G (any_map c.args.bench)) c.args.records rs (scene_of c.args.bench c.args.cells.now) c.loop-made.records t c.loop-made.made c.args.count now c.next_record.new.self x given moved
    refused.0 (sym h.answer ∙ refused.1) (scene_of c.call-answer.result.0 c.call-answer.new.cells) (called h.ledger cells)

pub loop-made-preserved : goal.loop-made-preserved
loop-made-preserved g c =
    let F = g.M.Map.forward in
    let G = g.M.Map.backward in
    let i = c.loop-made.invariant in
    let b = c.loop-made.bench in
    let t = scene_of b c.loop-made.cells in
    let h = c.call-answer.ensures in
    let x = c.in-Ok-Some.record in
    let given = subst (λ o. LeftAfter c.loop-made.records (Ok o) c.next_record.new.self) c.in-Ok-Some.field-0-is c.in-Ok-Some.ensures.left in
    let moved = subst (λ o. MovedBy c.loop-made.records (Ok o) c.next_record.new.self) c.in-Ok-Some.field-0-is c.in-Ok-Some.ensures.moved in
    let cells = h.cells ∙ ap (λ m. made_if (F m) (G m) x (any_ledger b) (any_handed b c.loop-made.cells)) i.0 in (
      h.map ∙ i.0,
      λ all is len.
          one_made (F (any_map c.args.bench)) (G (any_map c.args.bench)) c.args.records all (scene_of c.args.bench c.args.cells.now) c.loop-made.records t c.loop-made.made c.args.count (i.1 all is len) c.next_record.new.self x given moved
          (λ e refused. taken_by c.call-answer.result.1 c.line-line.result (λ y is. c.in_default-fault_of.not-Some y (c.fault_of.ensures ∙ is)) e (h.answer ∙ refused)) (scene_of c.call-answer.result.0 c.call-answer.new.cells) (called h.ledger cells),
    )
