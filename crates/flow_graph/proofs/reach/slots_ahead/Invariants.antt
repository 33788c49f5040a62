use Rattle.std.proofs.Common.{◌+◌, ◌*◌, length, sum_by}
use Rattle.flow_graph.specs.Reached.{AreSpread, left_mark}
use Rattle.flow_graph.proofs.reach.slots_ahead.Given as goal

abbrev pub invariant-loop-slot : goal.invariant-loop-slot
invariant-loop-slot l = AreSpread l.code l.from l.marks.items l.pending.items

abbrev pub decreases-loop-slot : goal.decreases-loop-slot
decreases-loop-slot l = 2 * sum_by left_mark l.marks.items + length l.pending.items
