use Rattle.std.proofs.Common.{ℕ, ◌<◌}
use Rattle.flow_graph.specs.Numbers.{LeadsOn}
use Rattle.flow_graph.proofs.cycle.never_fall.Given as goal

abbrev pub invariant-loop-slot : goal.invariant-loop-slot
invariant-loop-slot l = (p : ℕ) → p < l.slot → LeadsOn l.code l.numbers p
