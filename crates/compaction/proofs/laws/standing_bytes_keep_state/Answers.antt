use Rattle.compaction.proofs.StandingLemmas.{standing_keeps}
use Rattle.compaction.proofs.laws.standing_bytes_keep_state.Goals as goal

pub returns : goal.returns
returns g c = standing_keeps g.M.StateMachine.starts g.M.StateMachine.steps g.M.Snapshot.alike g.met.M.Snapshot.alike_self g.met.M.Snapshot.alike_step c.whole_first.ensures c.one_reading.ensures
