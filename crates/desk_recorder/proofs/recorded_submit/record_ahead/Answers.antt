use Rattle.std.proofs.Common.{refl}
use Rattle.desk_recorder.proofs.Composed.{records_nothing}
use Rattle.desk_recorder.proofs.recorded_submit.record_ahead.Goals as goal

pub returns-in-Err-clause-records : goal.returns-in-Err-clause-records
returns-in-Err-clause-records g c desk = records_nothing g.Q.RecordQueue.taken g.Q.RecordQueue.has_failed c.args.recorder.now desk desk refl

pub returns-in-Err-copy-clause-records : goal.returns-in-Err-copy-clause-records
returns-in-Err-copy-clause-records g c desk = records_nothing g.Q.RecordQueue.taken g.Q.RecordQueue.has_failed c.args.recorder.now desk desk refl

pub returns-in-Err-submit_record-clause-records : goal.returns-in-Err-submit_record-clause-records
returns-in-Err-submit_record-clause-records g c desk = records_nothing g.Q.RecordQueue.taken g.Q.RecordQueue.has_failed c.args.recorder.now desk desk refl
