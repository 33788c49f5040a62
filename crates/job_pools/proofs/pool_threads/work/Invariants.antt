use Rattle.std.proofs.Common.{◌≡◌, List, ◌++◌}
use Rattle.job_pools.specs.declared.job_seats.StartedJob.{StartedJob}
use Rattle.job_pools.proofs.pool_threads.work.Given as goal

-- each job that was taken so far was run, and its end was given back
abbrev pub invariant-loop : goal.invariant-loop
invariant-loop g l =
    (goal.iterator-loop g).can_next l.iterator' × (goal.iterator-loop g).is_finite l.iterator'
    × (took : List StartedJob) × (l.jobs.taken ≡ l.fn.jobs.taken ++ took) × (l.endings.put ≡ l.fn.endings.put ++ took)
