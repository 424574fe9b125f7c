use Rattle.std.proofs.Common.{◌≡◌, ◌+◌, ◌*◌, ◌≤◌, List, length, take, drop, sym, ap, ◌∙◌, subst, arith}
use Rattle.actions.specs.Actions.{Action, action_of}
use Rattle.journal.proofs.Kept.{standing_kept}
use Rattle.journal.proofs.Used.{standing_room}
use Rattle.journal.specs.Backwards.{left_of}
use Rattle.journal.specs.Journals.{standing_of}
use Rattle.ledger.proofs.Latest.{none_latest}
use Rattle.ledger.specs.Homes.{home_script}
use Rattle.ledger.specs.Ledgers.{entries}
use Rattle.reverse_script.proofs.ActionsBack.{still_front, shorter, entries_split, kept, action_after, action_put}
use Rattle.reverse_script.proofs.write.put_all.Goals as goal
use Rattle.text.specs.Puts.{put_at}

pub put_reversed-end-requires-clause-known : goal.put_reversed-end-requires-clause-known
put_reversed-end-requires-clause-known c =
    let i = c.loop-action.invariant in
    kept (standing_of c.args.journal.now) (left_of c.loop-action.actions) (action_of c.in-Some.action) i.0 i.1 c.in-Some.ensures.given (standing_kept c.args.journal.now)

pub put_reversed-end-requires-clause-room : goal.put_reversed-end-requires-clause-room
put_reversed-end-requires-clause-room c =
    let i = c.loop-action.invariant in
    let room = standing_room c.args.journal.now in
    let parts = entries_split (standing_of c.args.journal.now) (left_of c.loop-action.actions) (action_of c.in-Some.action) i.0 i.1 c.in-Some.ensures.given in
    let far = i.4 in
    let enough = c.requires in
    omega (arith, c.loop-action.auto.script)

pub loop-action-preserved : goal.loop-action-preserved
loop-action-preserved c =
    let i = c.loop-action.invariant in
    let all = standing_of c.args.journal.now in
    let left = left_of c.loop-action.actions in
    let a = action_of c.in-Some.action in
    let given = c.in-Some.ensures.given in
    let room = standing_room c.args.journal.now in
    let parts = entries_split all left a i.0 i.1 given in
    let far = i.4 in
    let fewer = i.1 in
    let enough = c.requires in
    let short = c.put_reversed-end.ensures.short in
    let less = shorter all left a i.0 i.1 given in
    let m = c.args.script.now in
    let after = action_after all left a i.0 i.1 given m c.loop-action.script c.put_reversed-end.new.script c.loop-action.end c.put_reversed-end.result i.2 i.3 c.put_reversed-end.ensures.memory c.put_reversed-end.ensures.after in
    let put = action_put all left a i.0 i.1 given m c.loop-action.script c.put_reversed-end.new.script c.loop-action.end c.put_reversed-end.result i.2 i.3 c.put_reversed-end.ensures.memory c.put_reversed-end.ensures.after (omega arith) in
    let P : List Action → Type 0 = λ x. (x ≡ take (length x) all) × (length x ≤ length all) × (c.put_reversed-end.new.script ≡ put_at m 0 (home_script (drop (length x) all))) × (c.put_reversed-end.result ≡ length (home_script (drop (length x) all))) × (c.put_reversed-end.result + 28 * entries x ≤ 28 * entries all) in
    subst P (sym c.in-Some.ensures.left) (still_front all left a i.0 i.1 given, omega arith, put, after, omega arith)

pub returns-clause-memory : goal.returns-clause-memory
returns-clause-memory c = c.loop-action.invariant.2 ∙ ap (λ n. put_at c.args.script.now 0 (home_script (drop n (standing_of c.args.journal.now)))) (none_latest (left_of c.loop-action.actions) c.in_default.ensures.given)

pub returns-clause-len : goal.returns-clause-len
returns-clause-len c = c.loop-action.invariant.3 ∙ ap (λ n. length (home_script (drop n (standing_of c.args.journal.now)))) (none_latest (left_of c.loop-action.actions) c.in_default.ensures.given)

pub returns-clause-short : goal.returns-clause-short
returns-clause-short c = let far = c.loop-action.invariant.4 in let room = standing_room c.args.journal.now in omega arith
