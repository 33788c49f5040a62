use Rattle.std.proofs.Common.{[]}
use Rattle.std.proofs.lemmas.Result.{IfOk-weaker}
use Rattle.desk_recorder.proofs.Composed.{records_nothing}
use Rattle.desk_recorder.proofs.recorded_answers.grant_recorded.Goals as goal

pub returns-in-Ok-clause-records : goal.returns-in-Ok-clause-records
returns-in-Ok-clause-records g c =
    c.note.ensures c.args.desk.now c.grant.new.self [] (IfOk-weaker c.grant_record-record.result _ _ (λ bytes are. are c.args.desk.now c.grant.new.self c.in-Ok.ensures.granted) c.grant_record-record.ensures.record)

pub returns-in-Err-clause-records : goal.returns-in-Err-clause-records
returns-in-Err-clause-records g c = records_nothing g.Q.RecordQueue.taken g.Q.RecordQueue.has_failed c.args.recorder.now c.args.desk.now c.grant.new.self c.in-Err.ensures.unchanged
