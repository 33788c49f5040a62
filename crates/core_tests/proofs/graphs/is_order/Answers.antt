use Rattle.flow_graph.proofs.Decoded.{decoded_of}
use Rattle.core_tests.proofs.graphs.is_order.Goals as goal

pub checked-requires : goal.checked-requires
checked-requires c = rw c.deref.ensures.value (decoded_of _ c.args.code.now c.in_ok-placed.ensures.found)
