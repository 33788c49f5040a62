use Rattle.std.proofs.Common.{◌≡◌}
use Rattle.job_pool.proofs.pool_queue.append.Given as goal

-- nothing was appended yet
abbrev pub invariant-loop : goal.invariant-loop
invariant-loop g l =
    (goal.iterator-loop g).can_next l.iterator' × (goal.iterator-loop g).is_finite l.iterator'
    × (l.list ≡ l.fn.list) × (l.rest ≡ l.fn.more)
