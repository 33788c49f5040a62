use Rattle.std.proofs.Common.{◌≡◌, ℕ, ◌<◌, None}
use Rattle.flow_graph.specs.Faults.{fault_at}
use Rattle.flow_graph.proofs.checks.first_fault.Given as goal

abbrev pub invariant-loop-slot : goal.invariant-loop-slot
invariant-loop-slot l = (s : ℕ) → s < l.slot → fault_at l.code s ≡ None
