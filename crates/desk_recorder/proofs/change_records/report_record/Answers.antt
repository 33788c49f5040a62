use Rattle.std.proofs.lemmas.Result.{IfOk-weaker}
use Rattle.desk_recorder.proofs.Steps.{records_report}
use Rattle.desk_recorder.proofs.change_records.report_record.Goals as goal

pub returns-clause-record : goal.returns-clause-record
returns-clause-record c =
    IfOk-weaker c.record_bytes-record.result _ _ (λ bytes are. records_report bytes.items c.args.job c.args.report are) c.record_bytes-record.ensures.bytes
