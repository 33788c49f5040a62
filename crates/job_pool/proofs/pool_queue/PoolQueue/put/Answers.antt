use Rattle.std.proofs.Common.{rules}
use Rattle.job_pool.proofs.PoolParts.{keeps_put}
use Rattle.job_pool.proofs.pool_queue.PoolQueue.put.Goals as goal

pub invariant_of-self : goal.invariant_of-self
invariant_of-self g c =
    keeps_put c.self.inside.keeper c.add.new.keeper _ c.self.inside.turns c.self.inside.over c.self.invariant c.mark-mark.result c.put.new.self
    c.add.ensures.keeper (search rules)
