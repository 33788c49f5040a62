use Rattle.std.proofs.Common.{arith}
use Rattle.std.proofs.lemmas.Result.{IfOk-weaker}
use Rattle.desk_recorder.proofs.Steps.{records_failure}
use Rattle.desk_recorder.proofs.change_records.failure_record.Goals as goal

pub returns-clause-record : goal.returns-clause-record
returns-clause-record c =
    IfOk-weaker c.record_bytes.result _ _ (λ bytes are. records_failure bytes.items c.args.job c.args.code are) c.record_bytes.ensures.bytes

pub returns-clause-small : goal.returns-clause-small
returns-clause-small c refused = c.record_bytes.ensures.too_large refused (omega arith)
