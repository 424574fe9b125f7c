use Rattle.std.proofs.Common.{rules, ◌<◌, arith}
use Rattle.std.proofs.lemmas.Fn.{serves_by}
use Rattle.samples.proofs.cells.digest.Goals as goal

-- the sum stays below 65,521, so the next product fits
pub fold-requires-clause-callable : goal.fold-requires-clause-callable
fold-requires-clause-callable c = serves_by _ (λ xs q. q.1 < 65521) (λ xs q x v small turn. search rules) _ _ _ _ (omega arith) (λ xs t q x u past next small. search rules)
