use Rattle.std.proofs.Common.{rules}
use Rattle.desk_recorder.proofs.Composed.{records_one, records_stop}
use Rattle.desk_recorder.proofs.recorder.ChangeRecorder.put.Goals as goal

pub returns-in-Ok : goal.returns-in-Ok
returns-in-Ok g c old new keyed is = records_one g.Q.RecordQueue.taken g.Q.RecordQueue.has_failed c.args.self.now _ old new keyed c.args.bytes.now c.requires.going c.requires.going c.requires.changed (search rules) is

pub returns-in-Err : goal.returns-in-Err
returns-in-Err g c old new keyed is = records_stop g.Q.RecordQueue.taken g.Q.RecordQueue.has_failed c.args.self.now c.stop.new.self old new keyed c.stop.ensures.stopped c.stop.ensures.failed (search rules)
