use Rattle.machine_model.proofs.FollowingLemmas.{follows_edge}
use Rattle.machine_model.proofs.laws.steps_follow_edges.Goals as goal

pub returns : goal.returns
returns c = follows_edge
