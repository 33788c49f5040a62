use Rattle.std.proofs.Common.{arith}
use Rattle.verifier.proofs.Counting.{merges_few}
use Rattle.verifier.proofs.sources.Sources.merges.Goals as goal

pub overflow_add-merges : goal.overflow_add-merges
overflow_add-merges c =
    omega (arith, c.loop-slot.invariant, c.loop-slot-test.true, c.slots-slots.type_inv, merges_few c.args.graph.now.code c.loop-slot.slot)
