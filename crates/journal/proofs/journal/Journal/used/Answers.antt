use Rattle.journal.proofs.Used.{used_is}
use Rattle.journal.proofs.journal.Journal.used.Goals as goal

pub returns : goal.returns
returns c = used_is c.args.self.now
