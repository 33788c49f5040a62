use Rattle.std.proofs.Common.{◌≡◌, ◌+◌, List, None, Some, find, length, refl, rules, subst}
use Rattle.desk_records.specs.declared.stored_tenant.StoredTenant.{StoredTenant}
use Rattle.ledger_records.specs.LedgerRecords.{is_tenant}
use Rattle.ledger_records.specs.TenantRows.{AreTenantRows}
use Rattle.ledger_records.proofs.TenantLemmas.{known_granted, new_granted}
use Rattle.ledger_records.proofs.tenant_rows.TenantRows.granted.Goals as goal

pub returns-in_default : goal.returns-in_default
returns-in_default c =
    let rows = c.args.self.now in
    let are : AreTenantRows rows = subst AreTenantRows c.self.view_is c.self.invariant in
    let none : find (is_tenant c.args.desk c.args.name.now) rows ≡ None = search rules in
    let number : c.in-Ok.number ≡ length rows = search rules in
    let name : c.in_ok-name.name ≡ c.args.name.now = search rules in
    new_granted rows are c.args.desk c.args.name.now c.args.amount (record { number = c.in-Ok.number; desk = c.args.desk; name = c.in_ok-name.name; granted = c.from.result; spent = 0 }) none number refl name c.from.ensures refl

pub returns : goal.returns
returns c =
    let rows = c.args.self.now in
    let row = c.in-Some.row.now in
    let are : AreTenantRows rows = subst AreTenantRows c.self.view_is c.self.invariant in
    let found : find (is_tenant c.args.desk c.args.name.now) rows ≡ Some row = search rules in
    let name : c.in_ok-name.name ≡ c.args.name.now = search rules in
    let sum : c.in-Some-checked_add.granted ≡ row.granted + c.args.amount = search rules in
    known_granted rows are c.args.desk c.args.name.now c.args.amount row (record { number = row.number; desk = c.args.desk; name = c.in_ok-name.name; granted = c.in-Some-checked_add.granted; spent = row.spent }) found refl refl name sum refl
