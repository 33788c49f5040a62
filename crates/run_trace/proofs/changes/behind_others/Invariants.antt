use Rattle.std.proofs.Common.{ℕ, ◌<◌, ◌≤◌, length}
use Rattle.run_trace.specs.Steps.{IsSame}
use Rattle.run_trace.proofs.changes.behind_others.Given as goal

abbrev pub invariant-loop-end : goal.invariant-loop-end
invariant-loop-end l = record {
  more : l.first < l.end;
  within : l.end ≤ length l.after;
  back : (k : ℕ) → l.end ≤ k → IsSame l.before l.after k;
}

abbrev pub decreases-loop-end : goal.decreases-loop-end
decreases-loop-end l = l.end
