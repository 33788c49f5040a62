use Rattle.std.proofs.Common.{◌∷◌, ◌++◌, [], ap, ◌∙◌}
use Rattle.job_pool.specs.PooledJobs.{PooledJob}
use Rattle.job_pool.specs.declared.pool_step.PoolStep.TheVariants.{Taken}
use Rattle.job_pool.proofs.PoolParts.{keeps_taken}
use Rattle.job_pool.proofs.pool_queue.PoolQueue.take.Goals as goal

pub invariant_of-self-2 : goal.invariant_of-self-2
invariant_of-self-2 g c =
    keeps_taken c.self.inside.keeper c.add.new.keeper c.args.seat.now.number c.self.inside.turns c.self.inside.over c.self.invariant c.in_ok-flow.first c.in_ok-flow.flow c.take.new.self
    (c.add.ensures.keeper ∙ ap (λ (j : PooledJob). c.self.inside.keeper ++ record { seat = c.args.seat.now.number; entry = Taken c.in_ok-flow.flow j } ∷ []) c.mark.ensures)
    c.in_ok-flow.ensures
