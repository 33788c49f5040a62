use Rattle.compaction.proofs.SnapshotLemmas.{stands_through}
use Rattle.compaction.proofs.laws.compactions_compose.Goals as goal

pub returns : goal.returns
returns g c = stands_through g.M.StateMachine.starts g.M.StateMachine.steps g.M.Snapshot.alike g.met.M.Snapshot.alike_through
