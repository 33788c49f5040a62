use Rattle.std.proofs.Common.{◌≡◌, ◌<◌, ◌≤◌, ◌++◌, ◌∷◌, [], List, ap, arith, length, rules, subst, sym, ◌∙◌}
use Rattle.sqlite_keyed.specs.Keyed.{insert_by}
use Rattle.desk_records.specs.Made.{tenant_key}
use Rattle.desk_records.specs.declared.stored_tenant.StoredTenant.{StoredTenant}
use Rattle.ledger_records.specs.LedgerRecords.{HasItsNumber}
use Rattle.ledger_records.specs.TenantRows.{AreTenantRows}
use Rattle.ledger_records.proofs.TenantLemmas.{put_behind, put_in_place, rows_pushed, rows_set}
use Rattle.ledger_records.proofs.tenant_rows.TenantRows.put.Goals as goal

pub invariant_of-self : goal.invariant_of-self
invariant_of-self c =
    let rows = c.self.inside.rows.items in
    let own : HasItsNumber rows c.args.row = subst (λ (r : List StoredTenant). HasItsNumber r c.args.row) (sym c.self.view_is) c.requires.own in
    let within : c.args.row.number < length rows = search rules in
    rows_set rows c.args.row c.self.invariant own within

pub returns-then-place-len-clause-ok : goal.returns-then-place-len-clause-ok
returns-then-place-len-clause-ok c =
    let rows = c.self.inside.rows.items in
    let within : c.args.row.number < length rows = search rules in
    put_in_place rows c.args.row c.self.invariant within ∙ ap (λ (r : List StoredTenant). insert_by tenant_key r c.args.row) c.self.view_is

pub invariant_of-self-2 : goal.invariant_of-self-2
invariant_of-self-2 c =
    let rows = c.self.inside.rows.items in
    let own : HasItsNumber rows c.args.row = subst (λ (r : List StoredTenant). HasItsNumber r c.args.row) (sym c.self.view_is) c.requires.own in
    let number : c.args.row.number ≡ length rows = search rules in
    let added : c.push_reserved.new.self.items ≡ rows ++ c.args.row ∷ [] = search rules in
    subst AreTenantRows (sym added) (rows_pushed rows c.args.row c.self.invariant own number)

pub returns-clause-ok : goal.returns-clause-ok
returns-clause-ok c =
    let rows = c.self.inside.rows.items in
    let number : c.args.row.number ≡ length rows = search rules in
    let added : c.push_reserved.new.self.items ≡ rows ++ c.args.row ∷ [] = search rules in
    added ∙ put_behind rows c.args.row c.self.invariant number ∙ ap (λ (r : List StoredTenant). insert_by tenant_key r c.args.row) c.self.view_is
