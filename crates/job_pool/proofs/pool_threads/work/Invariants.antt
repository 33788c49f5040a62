use Rattle.std.proofs.Common.{◌≡◌, List, ◌++◌, option_to_list}
use Rattle.job_pool.specs.PooledJobs.{PooledJob}
use Rattle.job_pool.specs.PoolSteps.{job_ended, job_taken, over_steps}
use Rattle.job_pool.proofs.pool_threads.work.Given as goal

-- the end of each job that was taken so far was told, but for that of the last one
abbrev pub invariant-loop : goal.invariant-loop
invariant-loop g l =
    (goal.iterator-loop g).can_next l.iterator' × (goal.iterator-loop g).is_finite l.iterator'
    × (took : List PooledJob) × (over_steps job_taken l.worker.part ≡ over_steps job_taken l.fn.worker.part ++ took)
    × (over_steps job_ended l.worker.part ++ option_to_list l.done ≡ over_steps job_ended l.fn.worker.part ++ took)
