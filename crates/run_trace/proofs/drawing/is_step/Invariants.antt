use Rattle.std.proofs.Common.{◌≡◌, ◌≢◌, ℕ, ◌+◌, ◌<◌, slice_index_or}
use Rattle.run_trace.proofs.drawing.is_step.Given as goal

abbrev pub invariant-loop-place : goal.invariant-loop-place
invariant-loop-place l =
    (k : ℕ) → k + 1 < l.place → slice_index_or l.way k 0 ≡ l.from → slice_index_or l.way (k + 1) 0 ≢ l.to
