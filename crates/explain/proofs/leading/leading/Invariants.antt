use Rattle.std.proofs.Common.{◌≤◌, length}
use Rattle.explain.specs.Leading.{LeadFrom}
use Rattle.explain.proofs.leading.leading.Given as goal

abbrev pub invariant-loop-place : goal.invariant-loop-place
invariant-loop-place l = record {
  few : l.place ≤ length l.graph.order;
  marked : LeadFrom l.graph.code l.graph.order l.slot l.place l.marks.items;
}

abbrev pub decreases-loop-place : goal.decreases-loop-place
decreases-loop-place l = l.place
