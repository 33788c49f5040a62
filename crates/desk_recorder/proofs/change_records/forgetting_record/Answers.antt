use Rattle.std.proofs.Common.{arith}
use Rattle.std.proofs.lemmas.Result.{IfOk-weaker}
use Rattle.desk_recorder.proofs.Steps.{records_forgetting}
use Rattle.desk_recorder.proofs.change_records.forgetting_record.Goals as goal

pub returns-clause-record : goal.returns-clause-record
returns-clause-record c =
    IfOk-weaker c.record_bytes.result _ _ (λ bytes are. records_forgetting bytes.items c.args.ahead are) c.record_bytes.ensures.bytes

pub returns-clause-small : goal.returns-clause-small
returns-clause-small c refused = c.record_bytes.ensures.too_large refused (omega arith)
