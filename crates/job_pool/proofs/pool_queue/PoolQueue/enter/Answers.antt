use Rattle.job_pool.proofs.PoolParts.{keeps_started}
use Rattle.job_pool.proofs.pool_queue.PoolQueue.enter.Goals as goal

pub invariant_of-self : goal.invariant_of-self
invariant_of-self g c = keeps_started c.self.inside.keeper c.add.new.keeper _ c.self.inside.turns c.self.inside.over c.self.invariant c.args.started c.add.ensures.keeper
