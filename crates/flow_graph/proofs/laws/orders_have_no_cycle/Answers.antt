use Rattle.flow_graph.proofs.OrderLemmas.{no_cycle}
use Rattle.flow_graph.proofs.laws.orders_have_no_cycle.Goals as goal

pub returns : goal.returns
returns c = no_cycle
