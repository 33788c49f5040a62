use Rattle.std.proofs.Common.{◌≡◌, ◌+◌, ◌≤◌, vec_len, vec_capacity}
use Rattle.workers.proofs.pool.open_workers.Given as goal

abbrev pub invariant-loop-lanes : goal.invariant-loop-lanes
invariant-loop-lanes g l = record {
  same : l.post ≡ l.fn.post;
  count : vec_len l.workers + vec_len l.all ≡ l.count;
  room : l.count ≤ vec_capacity l.workers;
}

abbrev pub decreases-loop-lanes : goal.decreases-loop-lanes
decreases-loop-lanes g l = vec_len l.all
