use Rattle.std.proofs.Common.{◌≡◌, true, is_some, ◌∙◌, sym}
use Rattle.scripts.proofs.Lefts.{record_counted}
use Rattle.scripts.proofs.check.count_records.Goals as goal

pub loop-count-preserved : goal.loop-count-preserved
loop-count-preserved c =
    let r = c.loop-count.records in
    let a = c.next_record.result in
    let s = c.next_record.new.self in
    let some : is_some c.in_ok-next_record.field-0 ≡ true = sym c.is_some.ensures ∙ c.if-is_some.true in
    let step = record_counted r a c.in_ok-next_record.field-0 s c.loop-count.count _ c.in_ok-next_record.was some c.next_record.ensures.moved c.next_record.ensures.left c.loop-count.invariant.0 in
    (step.0, c.loop-count.invariant.1 ∙ step.1)
