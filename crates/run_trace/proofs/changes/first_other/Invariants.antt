use Rattle.std.proofs.Common.{ℕ, ◌<◌}
use Rattle.run_trace.specs.Steps.{IsSame}
use Rattle.run_trace.proofs.changes.first_other.Given as goal

abbrev pub invariant-loop-place : goal.invariant-loop-place
invariant-loop-place l = (k : ℕ) → k < l.place → IsSame l.before l.after k
