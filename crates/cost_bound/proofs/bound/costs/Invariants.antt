use Rattle.std.proofs.Common.{◌≤◌, length}
use Rattle.cost_bound.specs.Table.{AreCostsFrom}
use Rattle.cost_bound.proofs.bound.costs.Given as goal

abbrev pub invariant-loop-place : goal.invariant-loop-place
invariant-loop-place l = record {
  later : AreCostsFrom l.graph l.table.items l.place;
  below : l.place ≤ length l.graph.order;
}

abbrev pub decreases-loop-place : goal.decreases-loop-place
decreases-loop-place l = l.place
