use Rattle.std.proofs.Common.{ap, ◌∙◌}
use Rattle.accounts.specs.Ledgers.{Ledger, ledger_of, report_at}
use Rattle.accounts.proofs.Sharing.{reported_in, refusing}
use Rattle.accounts.proofs.desk.Desk.shared_result.Goals as goal

pub share-requires : goal.share-requires
share-requires c = (
  c.in-Ok.field-0.now,
  reported_in (ledger_of c.self.inside.tenants c.self.inside.jobs) c.args.job c.in-Ok.field-0.now (ap (λ (l : Ledger). report_at l c.args.job) c.self.view_is ∙ c.in-Ok.ensures),
)

pub returns-in_err-report-clause-refused : goal.returns-in_err-report-clause-refused
returns-in_err-report-clause-refused c = refusing c.from_residual.result _ (c.in-Ok.field-0.now, c.in-Ok.ensures)
