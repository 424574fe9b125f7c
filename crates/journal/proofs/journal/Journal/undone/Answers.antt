use Rattle.std.proofs.Common.{sym, arith}
use Rattle.journal.proofs.Standing.{count_undone}
use Rattle.journal.proofs.journal.Journal.undone.Goals as goal

pub returns : goal.returns
returns c =
    let j = c.args.self.now in
    let s = j.sizes in
    sym (count_undone j.entries j.flips j.standing j.undone (omega arith))
