use Rattle.flow_graph.proofs.LandingLemmas.{settled}
use Rattle.flow_graph.proofs.laws.edges_are_settled.Goals as goal

pub returns : goal.returns
returns c = settled
