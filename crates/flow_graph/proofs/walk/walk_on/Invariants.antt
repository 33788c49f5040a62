use Rattle.std.proofs.Common.{◌+◌, ◌*◌, length, sum_by}
use Rattle.flow_graph.specs.Walks.{IsWalk, IsFurther, new_mark}
use Rattle.flow_graph.proofs.walk.walk_on.Given as goal

abbrev pub invariant-loop-slot : goal.invariant-loop-slot
invariant-loop-slot l = record {
  walk : IsWalk l.code l.walk.marks.items l.walk.path.items l.walk.done.items;
  further : IsFurther l.fn.walk.marks.items l.walk.marks.items;
}

abbrev pub decreases-loop-slot : goal.decreases-loop-slot
decreases-loop-slot l = 2 * sum_by new_mark l.walk.marks.items + length l.walk.path.items
