use Rattle.std.proofs.Common.{length}
use Rattle.flow_graph.proofs.components.Numbering.complete.Given as goal

abbrev pub invariant-loop-slot : goal.invariant-loop-slot
invariant-loop-slot l = Unit {0}

abbrev pub decreases-loop-slot : goal.decreases-loop-slot
decreases-loop-slot l = length l.self.waiting.items
