use Rattle.flow_graph.proofs.Decoded.{decoded_of}
use Rattle.core_tests.proofs.graphs.order.Goals as goal

pub build-requires : goal.build-requires
build-requires c = rw c.deref.ensures.value (decoded_of _ c.args.code.now c.in_ok-placed.ensures.found)
