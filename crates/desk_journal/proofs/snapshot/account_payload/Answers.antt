use Rattle.std.proofs.Common.{◌∙◌}
use Rattle.desk_journal.proofs.Added.{if_ok}
use Rattle.desk_journal.proofs.snapshot.account_payload.Goals as goal

pub returns : goal.returns
returns c =
    if_ok c.to_bytes.result (λ bytes is. record { tenant = c.in_ok-tenant.tenant; same = c.in_ok-tenant.ensures.items_if_clones_equal (λ x y h. h) ∙ c.as_bytes.ensures.value; is = is }) c.to_bytes.ensures
