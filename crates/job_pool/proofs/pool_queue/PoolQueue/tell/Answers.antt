use Rattle.std.proofs.Common.{◌++◌, ◌∷◌, [], sym, ap, ◌∙◌}
use Rattle.job_pool.specs.PooledJobs.{PooledJob}
use Rattle.job_pool.proofs.PoolParts.{keeps_ended}
use Rattle.job_pool.proofs.pool_queue.PoolQueue.tell.Goals as goal

pub invariant_of-self : goal.invariant_of-self
invariant_of-self g c =
    let parts = c.into_parts-mark.ensures in
    keeps_ended c.self.inside.keeper c.add.new.keeper _ c.self.inside.turns c.self.inside.over c.self.invariant c.into_parts-mark.result.0 c.append.new.list
    c.add.ensures.keeper
    (c.append.ensures ∙ ap (λ l. c.self.inside.over ++ l) (parts.1 ∙ ap (λ (j : PooledJob). j ∷ []) (sym parts.0)))
