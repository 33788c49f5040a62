use Rattle.std.proofs.Common.{◌≡◌, Option, None, sym, ap, ◌∙◌, is_some, true}
use Rattle.std.proofs.lemmas.Result.{err_from_is_err_and}
use Rattle.accounts.proofs.Keeping.{granted_none}
use Rattle.accounts.proofs.Restored.{found_one, no_jobs, none_found, opens}
use Rattle.accounts.proofs.desk.Desk.open_account.Goals as goal

pub returns-then-is_some-clause-refused : goal.returns-then-is_some-clause-refused
returns-then-is_some-clause-refused c = rw (← c.self.view_is) (found_one c.sums_of.result c.is_some.result c.args.tenant.now c.self.inside.tenants c.self.inside.jobs c.sums_of.ensures c.is_some.ensures c.if-is_some.true)

pub returns-in_err-add-clause-refused : goal.returns-in_err-add-clause-refused
returns-in_err-add-clause-refused c =
    let p = err_from_is_err_and c.from_residual.result c.from_residual.ensures.1 in
    rw (p.1, p.2, ← c.self.view_is) (
      no_jobs c.self.inside.jobs c.count.result c.count.ensures c.if-count-gt0.false,
      none_found c.sums_of.result c.is_some.result c.args.tenant.now c.self.inside.tenants c.self.inside.jobs c.sums_of.ensures c.is_some.ensures c.if-is_some.false,
      c.if-spent-granted.false,
      c.if-granted-gt-MOST_GRANTED.false,
    )

pub returns-clause-opened : goal.returns-clause-opened
returns-clause-opened c = rw (← c.self.view_is)
    (opens c.self.inside.tenants c.add.new.tenants c.self.inside.jobs (no_jobs c.self.inside.jobs c.count.result c.count.ensures c.if-count-gt0.false)
    c.args.tenant.now c.args.granted c.args.spent c.in_ok-add.ensures.ok
    (none_found c.sums_of.result c.is_some.result c.args.tenant.now c.self.inside.tenants c.self.inside.jobs c.sums_of.ensures c.is_some.ensures c.if-is_some.false)
    c.if-spent-granted.false c.if-granted-gt-MOST_GRANTED.false)
