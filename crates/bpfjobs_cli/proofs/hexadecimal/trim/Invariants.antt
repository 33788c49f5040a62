use Rattle.std.proofs.Common.{◌≤◌, ◌<◌, ℕ, length, slice_index}
use Rattle.bpfjobs_cli.specs.Hexadecimal.{IsTrailing}
use Rattle.bpfjobs_cli.proofs.hexadecimal.trim.Given as goal

abbrev pub invariant-loop-end : goal.invariant-loop-end
invariant-loop-end l = record {
  within : l.end ≤ length l.text;
  trails : (k : ℕ) → l.end ≤ k → k < length l.text → IsTrailing (slice_index l.text k);
}

abbrev pub decreases-loop-end : goal.decreases-loop-end
decreases-loop-end l = l.end
