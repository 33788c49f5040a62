use Rattle.std.proofs.lemmas.Result.{err_from_is_err_and}
use Rattle.desk_journal.specs.declared.encoded.ReadFault.TheVariants.{NoValue}
use Rattle.desk_journal.proofs.ListLemmas.{same_fault}
use Rattle.desk_journal.proofs.parts.ProgramBytesEncoded.read.Goals as goal

pub returns-in_err-need-clause-refused : goal.returns-in_err-need-clause-refused
returns-in_err-need-clause-refused c is value rest e =
    let p = err_from_is_err_and c.from_residual.result c.from_residual.ensures.1 in
    let fault = same_fault c.from_residual.result p.0 c.in_err-need.field-0.0 NoValue p.1 p.2 is in
    c.in_err-need.ensures.refused fault (value.need, record { bytes = value.code }) rest e
