use Rattle.flow_graph.proofs.LandingLemmas.{falls_off}
use Rattle.flow_graph.proofs.laws.falls_off.Goals as goal

pub returns : goal.returns
returns c = falls_off
