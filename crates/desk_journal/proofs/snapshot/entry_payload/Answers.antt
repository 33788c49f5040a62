use Rattle.std.proofs.Common.{◌<◌, ◌^◌, ◌∙◌, ℕ, inl, inr, subst}
use Rattle.desk_journal.proofs.Added.{failure_change_so, if_ok, report_change_so}
use Rattle.desk_journal.proofs.snapshot.entry_payload.Goals as goal

pub returns-in-Reported : goal.returns-in-Reported
returns-in-Reported c =
    let named = c.in_ok-tenant.ensures.items_if_clones_equal (λ x y h. h) ∙ c.as_bytes.ensures.value in
    let spent = subst (λ (n : ℕ). n < 2 ^ 32) c.within_width.ensures.same c.within_width.ensures.within in
    let returned = subst (λ (n : ℕ). n < 2 ^ 32) c.within_width-in-Reported.ensures.same c.within_width-in-Reported.ensures.within in
    if_ok c.report_payload.result
    (λ bytes is. inl (report_change_so c.args.entry.now c.in_ok-tenant.tenant c.get-report.result.now c.in-Reported.kept c.within_width-credit.result c.deref.result.now bytes.items named c.in-Reported.is c.get-report.ensures
    c.within_width-credit.ensures.same c.within_width-credit.ensures.within spent returned c.deref.ensures.value is))
    c.report_payload.ensures

pub returns-in-Failed : goal.returns-in-Failed
returns-in-Failed c =
    let named = c.in_ok-tenant.ensures.items_if_clones_equal (λ x y h. h) ∙ c.as_bytes.ensures.value in
    if_ok c.to_bytes.result
    (λ bytes is. inr (failure_change_so c.args.entry.now c.in_ok-tenant.tenant c.in-Failed.code c.within_width-credit.result bytes.items named c.in-Failed.is c.within_width-credit.ensures.same c.within_width-credit.ensures.within is))
    c.to_bytes.ensures
