use Rattle.compaction.proofs.SnapshotLemmas.{keeps_state}
use Rattle.compaction.proofs.laws.compaction_keeps_state.Goals as goal

pub returns : goal.returns
returns g c = keeps_state g.M.StateMachine.starts g.M.StateMachine.steps g.M.Snapshot.alike c.one_reading.ensures
