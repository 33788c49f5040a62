use Rattle.std.proofs.Common.{◌≡◌, ◌≤◌, All, length, vec_capacity}
use Rattle.job_pools.specs.Queues.{nothing}
use Rattle.job_pools.proofs.turn_ends.queue_in_turns.Given as goal

abbrev pub invariant-loop : goal.invariant-loop
invariant-loop g l = record {
  count : length l.outlets.items ≡ l.counter;
  room : l.takers ≤ vec_capacity l.outlets;
  new : All (λ o. o ≡ nothing) l.outlets.items;
}
