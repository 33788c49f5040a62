use Rattle.flow_graph.specs.Forward.{IsForwardTo}
use Rattle.flow_graph.proofs.forward.slots_in_turn.Given as goal

abbrev pub invariant-loop-slot : goal.invariant-loop-slot
invariant-loop-slot l = IsForwardTo l.code l.slot l.marks.items l.order.items
