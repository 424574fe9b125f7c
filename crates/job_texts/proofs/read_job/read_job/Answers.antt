use Rattle.job_texts.proofs.LongJobs.{read_up_to}
use Rattle.job_texts.proofs.read_job.read_job.Goals as goal

pub returns-clause-job : goal.returns-clause-job
returns-clause-job g c = read_up_to g.R.Read.remaining c.args.input 65537 c.take.result c.new-job.result.items c.read_to_end.new.buf.items c.new-job.ensures.items c.take.ensures.limit c.take.ensures.inner c.in_ok-read_to_end.ensures.bytes
