use Rattle.std.proofs.Common.{◌≡◌, refl, subst}
use Rattle.desk_records.specs.declared.stored_change.SettledJob.{SettledJob}
use Rattle.ledger_records.specs.TenantRows.{IsRowOfCost, spent_of_result}
use Rattle.ledger_records.proofs.TenantLemmas.{end_rows}
use Rattle.ledger_records.proofs.tenant_rows.TenantRows.settled.Goals as goal

pub returns : goal.returns
returns c =
    let rows = c.args.self.now in
    let made : SettledJob = record { outcome = record { desk = c.args.desk; number = c.args.number; outcome = c.in_ok-written.written }; tenant = c.in_ok-row.row } in
    let row : IsRowOfCost c.args.desk rows c.args.tenant.now (spent_of_result c.in_ok-written.written) c.in_ok-row.row = subst (λ cost. IsRowOfCost c.args.desk rows c.args.tenant.now cost c.in_ok-row.row) c.spent_in.ensures c.in_ok-row.ensures in
    end_rows rows c.args.desk c.args.number c.args.credit c.args.tenant.now c.args.outcome.now made refl refl c.in_ok-written.ensures row
