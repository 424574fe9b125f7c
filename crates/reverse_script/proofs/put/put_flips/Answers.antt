use Rattle.std.proofs.Common.{arith}
use Rattle.reverse_script.proofs.FlipsBack.{one_less, rest_front, flip_after, flip_put}
use Rattle.reverse_script.proofs.put.put_flips.Goals as goal

pub loop-last-preserved : goal.loop-last-preserved
loop-last-preserved c =
    let flips = c.args.flips.now in
    let i = c.loop-last.invariant in
    let split = c.in-Some.ensures.cases.0 in
    let left = c.loop-last.left.now in
    let rest = c.in-Some.rest.now in
    let last = c.in-Some.last.now in
    let less = one_less flips left rest last i.0 i.1 split in
    let room = c.requires in
    let short = c.record_of.ensures.short in
    let place = c.put-end.ensures.after in
    let far = i.4 in
    let fewer = i.1 in
    let put = flip_put flips left rest last i.0 i.1 split c.args.script.now c.loop-last.script c.put-end.new.script c.args.at c.loop-last.end c.put-end.result c.record_of.result c.record_of.ensures.is i.2 i.3 c.put-end.ensures.memory c.put-end.ensures.after (omega arith) in
    let after = flip_after flips left rest last i.0 i.1 split c.args.script.now c.loop-last.script c.put-end.new.script c.args.at c.loop-last.end c.put-end.result c.record_of.result c.record_of.ensures.is i.2 i.3 c.put-end.ensures.memory c.put-end.ensures.after in
    (rest_front flips left rest last i.0 i.1 split, omega arith, put, after, omega arith)
