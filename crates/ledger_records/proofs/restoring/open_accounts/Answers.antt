use Rattle.std.proofs.Common.{◌≡◌, ◌<◌, ◌++◌, ◌∷◌, [], arith, inl, inr, length, rules, slice_index_or, subst, sym, take}
use Rattle.std.proofs.lemmas.List.{take_more}
use Rattle.accounts.specs.Ledgers.{Ledger}
use Rattle.desk_records.specs.declared.stored_tenant.StoredTenant.{StoredTenant}
use Rattle.ledger_records.specs.SoFar.{HasAccounts}
use Rattle.ledger_records.proofs.SoFarLemmas.{account_opened, account_passed}
use Rattle.ledger_records.proofs.restoring.open_accounts.Goals as goal

pub loop-row-preserved : goal.loop-row-preserved
loop-row-preserved c =
    let rows = c.args.tenants.now in
    let at = c.loop-row.row-index in
    let row = c.row-item.result in
    let done = take at rows in
    let within : at < length rows = omega arith in
    let here : slice_index_or rows at row ≡ row = search rules in
    rw (take_more rows at row within)
    (subst (λ (r : StoredTenant). HasAccounts c.args.number (done ++ r ∷ []) c.open_account.new.desk) (sym here)
    (elim c.in_ok-open_account.ensures [
      | inl other ↦ subst (λ (ledger : Ledger). HasAccounts c.args.number (done ++ row ∷ []) ledger) (sym other.1) (account_passed c.args.number done row c.loop-row.desk other.0 c.loop-row.invariant)
      | inr own ↦ account_opened c.args.number done row c.loop-row.desk c.open_account.new.desk own.0 own.1 c.loop-row.invariant
    ]))
