use Rattle.compaction.proofs.SnapshotLemmas.{stands_for}
use Rattle.compaction.proofs.laws.snapshot_stands_for_history.Goals as goal

pub returns : goal.returns
returns g c = stands_for g.M.StateMachine.starts g.M.StateMachine.steps g.M.Snapshot.alike g.met.M.Snapshot.alike_step
