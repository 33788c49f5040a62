use Rattle.std.proofs.Common.{ℕ, ◌<◌}
use Rattle.machine_model.specs.Edges.{Begins}
use Rattle.flow_graph.specs.Places.{IsPlaced}
use Rattle.flow_graph.proofs.ordering.check_order.Given as goal

abbrev pub invariant-loop-slot : goal.invariant-loop-slot
invariant-loop-slot l = (s : ℕ) → s < l.slot → Begins l.code.items s → IsPlaced l.code.items l.places.items s
