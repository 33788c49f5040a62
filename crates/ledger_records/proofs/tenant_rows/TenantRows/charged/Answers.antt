use Rattle.std.proofs.Common.{◌≡◌, ◌+◌, List, Some, find, rules, subst}
use Rattle.desk_records.specs.declared.stored_tenant.StoredTenant.{StoredTenant}
use Rattle.ledger_records.specs.LedgerRecords.{is_tenant}
use Rattle.ledger_records.specs.TenantRows.{AreTenantRows}
use Rattle.ledger_records.proofs.TenantLemmas.{cost_row}
use Rattle.ledger_records.proofs.tenant_rows.TenantRows.charged.Goals as goal

pub returns : goal.returns
returns c =
    let rows = c.args.self.now in
    let row = c.in-Some.row.now in
    let are : AreTenantRows rows = subst AreTenantRows c.self.view_is c.self.invariant in
    let found : find (is_tenant c.args.desk c.args.name.now) rows ≡ Some row = search rules in
    let name : c.in_ok-copied.field-0 ≡ row.name = c.in_ok-copied.ensures in
    let sum : c.in-Some-checked_add.spent ≡ row.spent + c.args.cost = search rules in
    let made : StoredTenant = record { number = row.number; desk = row.desk; name = c.in_ok-copied.field-0; granted = row.granted; spent = c.in-Some-checked_add.spent } in
    cost_row rows c.args.desk c.args.cost c.args.name.now row made are found (λ i. record { number = row.number; desk = row.desk; name = name i; granted = row.granted; spent = sum i })
