use Rattle.std.proofs.Common.{◌≡◌, ◌≢◌, ℕ, ◌<◌, []}
use Rattle.machine_model.specs.Edges.{Begins}
use Rattle.flow_graph.specs.Walks.{IsWalk, mark_at}
use Rattle.flow_graph.specs.declared.walk.Mark.TheVariants.{New}
use Rattle.flow_graph.proofs.walk.walk_all.Given as goal

abbrev pub invariant-loop-slot : goal.invariant-loop-slot
invariant-loop-slot l = record {
  walk : IsWalk l.code l.walk.marks.items l.walk.path.items l.walk.done.items;
  ended : l.walk.path.items ≡ [];
  met : (s : ℕ) → s < l.slot → Begins l.code s → mark_at l.walk.marks.items s ≢ New;
}
