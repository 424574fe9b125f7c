use Rattle.std.proofs.Common.{rules}
use Rattle.jobs.proofs.FirstFaults.{run_first}
use Rattle.jobs.proofs.job.run_job.Goals as goal

pub returns-clause-first : goal.returns-clause-first
returns-clause-first c = search (rules, run_first)
