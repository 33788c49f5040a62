use Rattle.std.proofs.Common.{◌∙◌, [], ◌∷◌, ◌++◌, ap}
use Rattle.job_pool.specs.PooledJobs.{PooledJob}
use Rattle.job_pool.specs.PoolSteps.{job_ended, job_taken, over_steps}
use Rattle.job_pool.proofs.PoolParts.{append_assoc}
use Rattle.job_pool.proofs.pool_threads.work.Goals as goal

pub loop-preserved : goal.loop-preserved
loop-preserved g c =
    let inv = c.loop.invariant in
    let job : PooledJob = c.in-Some-next.job in (
      tt,
      tt,
      inv.2 ++ job ∷ [],
      c.in-Some-next.ensures.taken ∙ (ap (λ l. l ++ job ∷ []) inv.3 ∙ append_assoc (over_steps job_taken c.args.worker.now.part) inv.2 (job ∷ [])),
      ap (λ l. l ++ c.run.result ∷ []) (c.in-Some-next.ensures.ended ∙ inv.4)
          ∙ (ap (λ (j : PooledJob). (over_steps job_ended c.args.worker.now.part ++ inv.2) ++ j ∷ []) c.run.ensures ∙ append_assoc (over_steps job_ended c.args.worker.now.part) inv.2 (job ∷ [])),
    )
