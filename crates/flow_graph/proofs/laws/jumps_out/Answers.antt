use Rattle.flow_graph.proofs.LandingLemmas.{jumps_out}
use Rattle.flow_graph.proofs.laws.jumps_out.Goals as goal

pub returns : goal.returns
returns c = jumps_out
