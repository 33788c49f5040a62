use Rattle.compaction.proofs.SnapshotLemmas.{stands_on}
use Rattle.compaction.proofs.laws.later_changes_stand_too.Goals as goal

pub returns : goal.returns
returns g c = stands_on g.M.StateMachine.starts g.M.StateMachine.steps g.M.Snapshot.alike g.met.M.Snapshot.alike_step
