use Rattle.desk_recorder.proofs.change_records.end_record.Goals as goal

pub returns-in-Ok-clause-record : goal.returns-in-Ok-clause-record
returns-in-Ok-clause-record c = rw c.in-Ok.is c.report_record-record.ensures.record

pub returns-in-Err-clause-record : goal.returns-in-Err-clause-record
returns-in-Err-clause-record c = rw c.in-Err.is c.failure_record.ensures.record

pub returns-in-Ok-clause-too_large : goal.returns-in-Ok-clause-too_large
returns-in-Ok-clause-too_large c refused = (c.in-Ok.report, c.in-Ok.is, c.report_record-record.ensures.too_large refused)
