use Rattle.job_pool.proofs.Histories.{taken_was_started}
use Rattle.job_pool.proofs.pool_laws.taken_jobs_were_started.Goals as goal

pub returns : goal.returns
returns c = taken_was_started
