use Rattle.std.proofs.Common.{◌≢◌, ◌<◌, ◌-◌, ℕ, length, slice_index_or}
use Rattle.job_pool.proofs.fair_queue.place_of.Given as goal

abbrev pub invariant-loop-at : goal.invariant-loop-at
invariant-loop-at g l = (at : ℕ) (d : _) → at < l.at → (slice_index_or l.flows.items at d).number ≢ l.number

abbrev pub decreases-loop-at : goal.decreases-loop-at
decreases-loop-at g l = length l.flows.items - l.at
