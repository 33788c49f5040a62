use Rattle.flow_graph.proofs.LandingLemmas.{jumps_into}
use Rattle.flow_graph.proofs.laws.jumps_into.Goals as goal

pub returns : goal.returns
returns c = jumps_into
