use Rattle.std.proofs.Common.{ℕ, ◌<◌}
use Rattle.machine_model.specs.Edges.{Begins}
use Rattle.machine_model.specs.Paths.{IsReached}
use Rattle.flow_graph.proofs.reach.first_unreached.Given as goal

abbrev pub invariant-loop-slot : goal.invariant-loop-slot
invariant-loop-slot l = (s : ℕ) → s < l.slot → Begins l.code s → IsReached l.code s
