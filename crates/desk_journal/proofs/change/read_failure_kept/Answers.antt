use Rattle.std.proofs.Common.{◌≡◌, ◌++◌}
use Rattle.std.proofs.lemmas.Result.{err_from_is_err_and}
use Rattle.desk_journal.specs.ChangeLemmas.{if_failure_kept}
use Rattle.desk_journal.specs.DeskChanges.{body_bytes}
use Rattle.desk_journal.specs.declared.change.DeskChange.{DeskChange}
use Rattle.desk_journal.specs.declared.encoded.ReadFault.TheVariants.{NoValue}
use Rattle.desk_journal.proofs.ListLemmas.{same_fault}
use Rattle.desk_journal.proofs.change.read_failure_kept.Goals as goal

pub returns-in_err-tenant-clause-refused : goal.returns-in_err-tenant-clause-refused
returns-in_err-tenant-clause-refused c is change rest tag =
    let p = err_from_is_err_and c.from_residual.result c.from_residual.ensures.1 in
    let fault = same_fault c.from_residual.result p.0 c.in_err-tenant.field-0.0 NoValue p.1 p.2 is in
    let none = c.in_err-tenant.ensures.refused fault in
    if_failure_kept (λ (d : DeskChange). c.args.input.now ≡ body_bytes d ++ rest → ⊥) change tag (λ tenant credit code e. none (record { bytes = tenant }, (credit, code)) rest e)
