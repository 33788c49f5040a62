use Rattle.std.proofs.Common.{◌≡◌, ◌≤◌, [], All, length, vec_capacity}
use Rattle.job_pool.proofs.pool_ends.open_pool.Given as goal

abbrev pub invariant-loop : goal.invariant-loop
invariant-loop g l = record {
  count : length l.ends.items ≡ l.counter;
  room : l.workers ≤ vec_capacity l.ends;
  new : All (λ w. w.part ≡ []) l.ends.items;
}
