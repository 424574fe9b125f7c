use Rattle.std.proofs.Common.{arith}
use Rattle.reverse_script.proofs.FlipsBack.{session_put}
use Rattle.reverse_script.proofs.put.put_session.Goals as goal

pub returns-clause-memory : goal.returns-clause-memory
returns-clause-memory c =
    let short = c.put_flips-flipped.ensures.short in
    let after = c.put-opened.ensures.after in
    let room = c.requires in
    session_put c.args.flips.now c.args.script.now c.put-opened.new.script c.put_flips-flipped.new.script c.put.new.script c.args.at c.put-opened.result c.put_flips-flipped.result
    c.put-opened.ensures.memory c.put-opened.ensures.after c.put_flips-flipped.ensures.memory c.put_flips-flipped.ensures.after c.put.ensures.memory (omega arith)
