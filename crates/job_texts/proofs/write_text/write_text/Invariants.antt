use Rattle.std.proofs.Common.{length}
use Rattle.job_texts.proofs.PartsWritten.{IsWrittenUpTo}
use Rattle.job_texts.proofs.write_text.write_text.Given as goal

abbrev pub invariant-loop-rest : goal.invariant-loop-rest
invariant-loop-rest g l = IsWrittenUpTo (g.W.Write.contents l.initial.output) (g.W.Write.contents l.output) l.text l.rest

abbrev pub decreases-loop-rest : goal.decreases-loop-rest
decreases-loop-rest g l = length l.rest
