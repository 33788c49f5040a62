use Rattle.std.proofs.Common.{refl, rules}
use Rattle.desk_recorder.proofs.Composed.{records_marked, records_stop, records_stopped}
use Rattle.desk_recorder.proofs.recorder.ChangeRecorder.note.Goals as goal

pub returns-then-self : goal.returns-then-self
returns-then-self g c old new keyed is = records_stopped g.Q.RecordQueue.taken g.Q.RecordQueue.has_failed c.args.self.now _ old new keyed (search rules) (search rules) refl refl

pub returns-in-Ok : goal.returns-in-Ok
returns-in-Ok g c old new keyed is = records_marked g.Q.RecordQueue.taken g.Q.RecordQueue.has_failed c.args.self.now _ c.put.new.self old new keyed refl refl refl (c.put.ensures old new keyed (search rules))

pub returns-in-Err : goal.returns-in-Err
returns-in-Err g c old new keyed is = records_stop g.Q.RecordQueue.taken g.Q.RecordQueue.has_failed c.args.self.now c.stop.new.self old new keyed c.stop.ensures.stopped c.stop.ensures.failed (search rules)
