use Rattle.compaction.proofs.StandingLemmas.{standing_is_read}
use Rattle.compaction.proofs.laws.standing_bytes_are_read.Goals as goal

pub returns : goal.returns
returns g c = standing_is_read g.M.StateMachine.starts g.M.StateMachine.steps g.M.Snapshot.alike g.met.M.Snapshot.alike_self g.met.M.Snapshot.alike_step c.whole_first.ensures
