use Rattle.std.proofs.Common.{◌≡◌, List, [], ◌∷◌, ◌++◌, refl, sym, ap, ◌∙◌, subst, arith}
use Rattle.std.specs.BTreeMap as tree
use Rattle.std.proofs.lemmas.Result.{err_from_is_err_and}
use Rattle.accounts.specs.declared.jobs.JobEntry.{JobEntry}
use Rattle.accounts.specs.declared.jobs.JobStanding.TheVariants.{Open}
use Rattle.accounts.specs.Ledgers.{IsBalanced, ledger_of, past_of}
use Rattle.accounts.proofs.Keeping.{none_of, granted_none, accounted, kept_taken_at, grants_same, past_taken}
use Rattle.accounts.proofs.desk.Desk.take.Goals as goal

pub returns-in_default-clause-refused : goal.returns-in_default-clause-refused
returns-in_default-clause-refused c programs buffer admission = rw (← c.self.view_is) (granted_none c.self.inside.tenants c.self.inside.jobs c.args.tenant.now (sym c.sums_of.ensures ∙ none_of c.sums_of.result (λ s is. c.in_default.not-Some s is)))

pub returns-then-from-account_of-clause-refused : goal.returns-then-from-account_of-clause-refused
returns-then-from-account_of-clause-refused c programs buffer admission =
    let found = sym c.in-Some.ensures in
    let account = accounted c.self.inside.tenants c.self.inside.jobs c.args.tenant.now c.in-Some.sums (c.self.invariant.each _ _ found) found in
    rw (← c.self.view_is) (c.account_of.result.balance, record { account = c.account_of.result; is = rw c.account_of.ensures.account account; same = refl }, omega (arith, c.if-from-account_of.true, c.from.ensures))

pub returns-in-Err-clause-refused : goal.returns-in-Err-clause-refused
returns-in-Err-clause-refused c programs buffer admission =
    let found = sym c.in-Some.ensures in
    let account = accounted c.self.inside.tenants c.self.inside.jobs c.args.tenant.now c.in-Some.sums (c.self.invariant.each _ _ found) found in
    rw (← c.self.view_is) (c.account_of.result.balance, record { account = c.account_of.result; is = rw c.account_of.ensures.account account; same = refl }, omega (arith, c.if-from-account_of.false, c.from.ensures), rw c.in-Err.is at admission)

pub returns-in_err-from_str-clause-refused : goal.returns-in_err-from_str-clause-refused
returns-in_err-from_str-clause-refused c programs buffer admission =
    let found = sym c.in-Some.ensures in
    let account = accounted c.self.inside.tenants c.self.inside.jobs c.args.tenant.now c.in-Some.sums (c.self.invariant.each _ _ found) found in
    let p = err_from_is_err_and c.from_residual.result c.from_residual.ensures.1 in
    rw (p.1, p.2, ← c.self.view_is) (c.account_of.result.balance, record { account = c.account_of.result; is = rw c.account_of.ensures.account account; same = refl }, omega (arith, c.if-from-account_of.false, c.from.ensures), (rw c.in-Ok.is at admission).limits)

pub returns-in_err-add-clause-refused : goal.returns-in_err-add-clause-refused
returns-in_err-add-clause-refused c programs buffer admission =
    let found = sym c.in-Some.ensures in
    let account = accounted c.self.inside.tenants c.self.inside.jobs c.args.tenant.now c.in-Some.sums (c.self.invariant.each _ _ found) found in
    let p = err_from_is_err_and c.from_residual-in_err-add.result c.from_residual-in_err-add.ensures.1 in
    rw (p.1, p.2, ← c.self.view_is) (c.account_of.result.balance, record { account = c.account_of.result; is = rw c.account_of.ensures.account account; same = refl }, omega (arith, c.if-from-account_of.false, c.from.ensures), (rw c.in-Ok.is at admission).limits)

pub invariant_of-self-2 : goal.invariant_of-self-2
invariant_of-self-2 c =
    let entry : JobEntry = record { tenant = c.in_ok-from_str.field-0; credit = c.args.credit; standing = Open } in
    let pushed : c.add.new.self ≡ c.self.inside.jobs ++ entry ∷ [] = c.in_ok-add.ensures.added in
    let P : List JobEntry → Type 0 = λ js. IsBalanced (tree.get_by_text c.change.new.tenants) js in
    let found = sym c.in-Some.ensures in
    subst P (sym pushed)
    (kept_taken_at (tree.get_by_text c.self.inside.tenants) c.args.tenant.now c.in-Some.sums (tree.get_by_text c.change.new.tenants) c.self.inside.jobs entry c.from-2.result c.from-2.ensures
    c.self.invariant found c.in_ok-from_str.ensures.ok refl
    (omega (arith, c.if-from-account_of.false, c.from.ensures, ap (λ a. a.balance) c.account_of.ensures.account)) c.change.ensures)

pub returns-clause-taken : goal.returns-clause-taken
returns-clause-taken c =
    let entry : JobEntry = record { tenant = c.in_ok-from_str.field-0; credit = c.args.credit; standing = Open } in
    let pushed : c.add.new.self ≡ c.self.inside.jobs ++ entry ∷ [] = c.in_ok-add.ensures.added in
    let found = sym c.in-Some.ensures in
    let account = accounted c.self.inside.tenants c.self.inside.jobs c.args.tenant.now c.in-Some.sums (c.self.invariant.each _ _ found) found in
    rw (← c.self.view_is) (record {
      entry = entry;
      tenant = c.in_ok-from_str.ensures.ok;
      credited = refl;
      opened = refl;
      balance = c.account_of.result.balance;
      had = record { account = c.account_of.result; is = rw c.account_of.ensures.account account; same = refl };
      enough = omega (arith, c.if-from-account_of.false, c.from.ensures);
      jobs = record {
        grants = grants_same c.self.inside.tenants c.change.new.tenants c.self.inside.jobs c.add.new.self c.args.tenant.now c.in-Some.sums _ found refl c.change.ensures;
        past = λ q. ap (λ js. past_of (ledger_of c.change.new.tenants js) q) pushed ∙ past_taken c.self.inside.tenants c.change.new.tenants c.self.inside.jobs entry c.args.tenant.now c.in-Some.sums _ found refl c.change.ensures q;
        jobs = pushed;
      };
    })
