use Rattle.job_pool.proofs.Histories.{limits_held}
use Rattle.job_pool.proofs.pool_laws.limits_hold.Goals as goal

pub returns : goal.returns
returns c = limits_held
