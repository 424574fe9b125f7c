use Rattle.std.proofs.Common.{◌++◌, map, Ok, ◌∙◌, sym, ap, subst}
use Rattle.std.proofs.lemmas.List.{take_rest}
use Rattle.scripts.specs.Laws.{Reads}
use Rattle.scripts.specs.Reading.{LeftAfter}
use Rattle.scripts.specs.declared.state.State.TheVariants.{Rest}
use Rattle.home_and_mirror.proofs.EventsRead.{one_more, no_more, all_read}
use Rattle.home_and_mirror.proofs.trial.events_of.Goals as goal
use Rattle.home_and_mirror.specs.Events.{own_event}

pub loop-events-preserved : goal.loop-events-preserved
loop-events-preserved c all rs is rest =
    let r = c.loop-events.records in
    let s = c.next_record.new.self in
    let left = subst (λ o. LeftAfter r (Ok o) s) c.in-Some.is c.in_ok-record.ensures.left in
    one_more c.new-records.result r s c.loop-events.events.items c.in-Some.record c.loop-events.invariant left all rs is rest ∙ ap (λ es. es ++ map own_event rs) (sym c.in_ok-push.ensures.items)

pub returns : goal.returns
returns c rs reads =
    let none = no_more c.loop-events.records c.next_record.new.self c.in_ok-record.field-0 c.in_default.not-Some c.in_ok-record.ensures.left in
    all_read c.new-records.result c.loop-events.records c.loop-events.events.items rs c.loop-events.invariant none (c.new-records.ensures.written rs (subst (Reads Rest rs Rest) (sym (take_rest c.args.job.now c.args.opening.now.script_at)) reads))
