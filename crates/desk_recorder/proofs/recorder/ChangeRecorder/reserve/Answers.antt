use Rattle.std.proofs.Common.{refl, rules}
use Rattle.desk_recorder.proofs.Composed.{records_nothing, records_room}
use Rattle.desk_recorder.proofs.recorder.ChangeRecorder.reserve.Goals as goal

pub returns-then-self : goal.returns-then-self
returns-then-self g c desk = records_nothing g.Q.RecordQueue.taken g.Q.RecordQueue.has_failed c.args.self.now desk desk refl

pub returns : goal.returns
returns g c desk = records_room g.Q.RecordQueue.taken g.Q.RecordQueue.has_failed c.args.self.now _ desk (search rules) (search rules) refl (search rules)
