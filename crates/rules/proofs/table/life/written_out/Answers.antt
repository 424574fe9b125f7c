use Rattle.std.proofs.Common.{refl}
use Rattle.rules.specs.Rules.{life}
use Rattle.rules.proofs.Entries.{entries_answer}
use Rattle.rules.proofs.table.life.written_out.Goals as goal

pub returns : goal.returns
returns c = entries_answer life _ refl
