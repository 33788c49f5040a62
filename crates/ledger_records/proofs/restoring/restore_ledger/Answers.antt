use Rattle.std.proofs.Common.{◌≡◌, ◌∷◌, [], List, ap, arith, length, option_map, rules, subst, sym}
use Rattle.desk_records.specs.declared.stored_job.StoredJob.{StoredJob}
use Rattle.desk_records.specs.declared.stored_tenant.StoredTenant.{StoredTenant}
use Rattle.ledger_records.specs.SoFar.{HasAccounts, IsSoFar}
use Rattle.ledger_records.specs.declared.restored_job.RestoredJob.{RestoredJob}
use Rattle.ledger_records.proofs.SoFarLemmas.{row_more, rows_done, so_far_begun}
use Rattle.ledger_records.proofs.restoring.restore_ledger.Goals as goal

pub rows-init : goal.rows-init
rows-init c =
    let tenants : c.as_slice.result.now ≡ c.args.records.now.tenants = search rules in
    let jobs : c.args.records.now.jobs ≡ c.as_slice-rows.result.now = search rules in
    let outcomes : c.args.records.now.outcomes ≡ c.as_slice-outcomes.result.now = search rules in
    let has : HasAccounts c.args.number c.args.records.now.tenants c.in_ok-desk.desk = subst (λ (t : List StoredTenant). HasAccounts c.args.number t c.in_ok-desk.desk) tenants c.in_ok-desk.ensures in (
      [],
      [],
      jobs,
      outcomes,
      subst (λ (rs : List RestoredJob). IsSoFar c.args.number c.args.records.now.tenants [] [] c.in_ok-desk.desk rs) (sym c.new-open_jobs.ensures.items) (so_far_begun c.args.number c.args.records.now.tenants c.in_ok-desk.desk has),
    )

pub rows-preserved : goal.rows-preserved
rows-preserved c =
    let was = c.rows.invariant in
    let records = c.args.records.now in
    let first : c.rows.rows.now ≡ c.in-Some.row.now ∷ c.in-Some.others.now = search rules in
    row_more c.args.number records.tenants records.jobs was.0 c.rows.rows.now c.in-Some.others.now records.outcomes was.1 c.rows.outcomes.now c.split_outcome.result.1.now c.in-Some.row.now (option_map (λ o. o.now) c.split_outcome.result.0) c.rows.desk c.restore_row.new.desk c.rows.open_jobs.items
    c.restore_row.new.open_jobs.items c.requires.jobs c.requires.outcomes was.2 was.3 was.4 first c.split_outcome.ensures c.in_ok-restore_row.ensures

pub rows-smaller : goal.rows-smaller
rows-smaller c =
    let first : c.rows.rows.now ≡ c.in-Some.row.now ∷ c.in-Some.others.now = search rules in
    let long : length c.rows.rows.now ≡ length (c.in-Some.row.now ∷ c.in-Some.others.now) = ap length first in
    omega (arith, long)

pub returns-in-None : goal.returns-in-None
returns-in-None c =
    let was = c.rows.invariant in
    let records = c.args.records.now in
    let done : length c.rows.rows.now ≡ 0 = search rules in
    rows_done c.args.number records.tenants records.jobs was.0 c.rows.rows.now records.outcomes was.1 c.rows.outcomes.now c.rows.desk c.rows.open_jobs.items was.2 was.3 was.4 done c.in-None.ensures.cases
