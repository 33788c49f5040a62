use Rattle.flow_graph.proofs.OneRefusal.{nothing_refused}
use Rattle.flow_graph.proofs.laws.nothing_refused.Goals as goal

pub returns : goal.returns
returns c = nothing_refused
