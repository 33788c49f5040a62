use Rattle.job_pool.proofs.PoolParts.{begins_empty}
use Rattle.job_pool.proofs.pool_queue.PoolQueue.new.Goals as goal

pub invariant_of-result : goal.invariant_of-result
invariant_of-result g c = begins_empty c.args.keeper c.new.result c.new-2.result c.requires c.new.ensures c.new-2.ensures
