use Rattle.flow_graph.proofs.OneRefusal.{one_refusal}
use Rattle.flow_graph.proofs.laws.one_refusal.Goals as goal

pub returns : goal.returns
returns c = one_refusal
