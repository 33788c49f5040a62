use Rattle.std.proofs.Common.{ℕ, ◌<◌}
use Rattle.flow_graph.specs.Cycles.{IsOnCycle}
use Rattle.flow_graph.proofs.cycle.first_on_cycle.Given as goal

abbrev pub invariant-loop-slot : goal.invariant-loop-slot
invariant-loop-slot l = (s : ℕ) → s < l.slot → IsOnCycle l.code s → ⊥
