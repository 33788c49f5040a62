use Rattle.std.proofs.Common.{◌≤◌, ◌<◌, ◌+◌, ◌-◌, ℕ, length, slice_index}
use Rattle.explain.specs.Blocks.{IsStraight, slots_in}
use Rattle.explain.proofs.blocks.end_of.Given as goal

abbrev pub invariant-loop-end : goal.invariant-loop-end
invariant-loop-end l = record {
  some : l.first < l.end;
  within : l.end ≤ length l.placed;
  straight : (k : ℕ) → l.first ≤ k → k + 1 < l.end → IsStraight l.graph.code (slice_index (slots_in l.placed) k) (slice_index (slots_in l.placed) (k + 1));
}

abbrev pub decreases-loop-end : goal.decreases-loop-end
decreases-loop-end l = length l.placed - l.end
