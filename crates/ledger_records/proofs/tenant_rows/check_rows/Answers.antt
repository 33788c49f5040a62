use Rattle.std.proofs.Common.{◌≡◌, ◌<◌, ◌++◌, ◌∷◌, [], None, arith, find, length, refl, rules, slice_index_or, subst, sym, take}
use Rattle.std.proofs.lemmas.List.{take_more}
use Rattle.desk_records.specs.declared.stored_tenant.StoredTenant.{StoredTenant}
use Rattle.ledger_records.specs.LedgerRecords.{is_tenant}
use Rattle.ledger_records.specs.TenantRows.{AreTenantRows}
use Rattle.ledger_records.proofs.TenantLemmas.{rows_more}
use Rattle.ledger_records.proofs.tenant_rows.check_rows.Goals as goal

pub loop-place-preserved : goal.loop-place-preserved
loop-place-preserved c =
    let rows = c.args.rows.now in
    let at = c.loop-place.place in
    let row = c.index-behind-0.result in
    let within : at < length rows = search rules in
    let here : slice_index_or rows at row ≡ row = search rules in
    let number : row.number ≡ length (take at rows) = search rules in
    let none : find (is_tenant row.desk row.name) (take at rows) ≡ None = search rules in
    rw (take_more rows at row within) (subst (λ (r : StoredTenant). AreTenantRows (take at rows ++ r ∷ [])) (sym here) (rows_more (take at rows) row c.loop-place.invariant number none))
