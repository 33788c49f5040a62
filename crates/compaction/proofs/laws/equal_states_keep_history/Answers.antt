use Rattle.compaction.proofs.SnapshotLemmas.{equal_after}
use Rattle.compaction.proofs.laws.equal_states_keep_history.Goals as goal

pub returns : goal.returns
returns g c = equal_after g.M.StateMachine.starts g.M.StateMachine.steps g.M.Snapshot.alike
