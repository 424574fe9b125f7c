use Rattle.std.proofs.Common.{rules}
use Rattle.jobs.proofs.FirstFaults.{opened_first}
use Rattle.jobs.proofs.opening.open_job.Goals as goal

pub returns-clause-first : goal.returns-clause-first
returns-clause-first c = search (rules, opened_first)
