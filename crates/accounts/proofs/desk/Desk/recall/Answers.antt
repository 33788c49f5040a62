use Rattle.std.proofs.Common.{◌≡◌, ◌-◌, ◌++◌, ◌∷◌, [], List, refl, sym, ap, ◌∙◌, subst, arith}
use Rattle.std.specs.BTreeMap as tree
use Rattle.std.proofs.lemmas.Result.{err_from_is_err_and}
use Rattle.accounts.specs.declared.jobs.JobEntry.{JobEntry}
use Rattle.accounts.specs.Jobs.{spent_by_job}
use Rattle.accounts.specs.Ledgers.{IsBalanced, Ledger, ledger_of, past_of, spent_by_jobs}
use Rattle.accounts.specs.Restoring.{Recalls}
use Rattle.accounts.proofs.Keeping.{granted_none, granted_some, none_of}
use Rattle.accounts.proofs.Restored.{kept_recalled, past_here, recalls}
use Rattle.accounts.proofs.desk.Desk.recall.Goals as goal

pub returns-in_default-clause-refused : goal.returns-in_default-clause-refused
returns-in_default-clause-refused c = rw (← c.self.view_is) (granted_none c.self.inside.tenants c.self.inside.jobs c.args.tenant.now (sym c.sums_of.ensures ∙ none_of c.sums_of.result (λ s is. c.in_default.not-Some s is)))

pub returns-then-cost-recallable-clause-refused : goal.returns-then-cost-recallable-clause-refused
returns-then-cost-recallable-clause-refused c =
    let past = past_here c.self.inside.tenants c.self.inside.jobs c.args.tenant.now c.in-Some.sums (sym c.in-Some.ensures) in
    let more = c.if-cost-recallable.true in
    let all = c.recallable_of-recallable.ensures.all more in
    let cost = c.from-cost.ensures in
    let spent = c.spent.ensures in
    rw (← c.self.view_is) (omega (arith, past, more, all, cost, spent))

pub returns-in_err-from_str-clause-refused : goal.returns-in_err-from_str-clause-refused
returns-in_err-from_str-clause-refused c =
    let p = err_from_is_err_and c.from_residual.result c.from_residual.ensures.1 in
    let past = past_here c.self.inside.tenants c.self.inside.jobs c.args.tenant.now c.in-Some.sums (sym c.in-Some.ensures) in
    let few = c.if-cost-recallable.false in
    let within = c.recallable_of-recallable.ensures.within in
    let cost = c.from-cost.ensures in
    let spent = c.spent.ensures in
    let room = c.room.ensures in
    let some = c.if-room-eq0.false in
    rw (p.1, p.2, ← c.self.view_is) (
      sym c.is_open.ensures ∙ c.if-is_open.false,
      (c.in-Some.sums.granted, granted_some c.self.inside.tenants c.self.inside.jobs c.args.tenant.now c.in-Some.sums (sym c.in-Some.ensures)),
      omega (arith, past, few, within, cost, spent),
      omega (arith, room, some),
    )

pub returns-in_err-add-clause-refused : goal.returns-in_err-add-clause-refused
returns-in_err-add-clause-refused c =
    let p = err_from_is_err_and c.from_residual-in_err-add.result c.from_residual-in_err-add.ensures.1 in
    let past = past_here c.self.inside.tenants c.self.inside.jobs c.args.tenant.now c.in-Some.sums (sym c.in-Some.ensures) in
    let few = c.if-cost-recallable.false in
    let within = c.recallable_of-recallable.ensures.within in
    let cost = c.from-cost.ensures in
    let spent = c.spent.ensures in
    let room = c.room.ensures in
    let some = c.if-room-eq0.false in
    rw (p.1, p.2, ← c.self.view_is) (
      sym c.is_open.ensures ∙ c.if-is_open.false,
      (c.in-Some.sums.granted, granted_some c.self.inside.tenants c.self.inside.jobs c.args.tenant.now c.in-Some.sums (sym c.in-Some.ensures)),
      omega (arith, past, few, within, cost, spent),
      omega (arith, room, some),
    )

pub invariant_of-self-2 : goal.invariant_of-self-2
invariant_of-self-2 c =
    let entry : JobEntry = record { tenant = c.in_ok-from_str.field-0; credit = c.args.credit; standing = c.args.standing } in
    let pushed : c.add.new.self ≡ c.self.inside.jobs ++ entry ∷ [] = c.in_ok-add.ensures.added in
    let few = c.if-cost-recallable.false in
    let within = c.recallable_of-recallable.ensures.within in
    let cost = c.from-cost.ensures in
    let spent = c.spent.ensures in
    subst (λ (js : List JobEntry). IsBalanced (tree.get_by_text c.change.new.tenants) js) (sym pushed)
    (kept_recalled c.self.inside.jobs entry c.args.tenant.now c.in-Some.sums (c.recallable_of-recallable.result - c.from-cost.result) c.in_ok-from_str.ensures.ok
    (sym c.is_open.ensures ∙ c.if-is_open.false) (omega (arith, few, within, cost, spent))
    (tree.get_by_text c.self.inside.tenants) (tree.get_by_text c.change.new.tenants) c.self.invariant (sym c.in-Some.ensures) c.change.ensures)

pub returns-clause-recalled : goal.returns-clause-recalled
returns-clause-recalled c =
    let entry : JobEntry = record { tenant = c.in_ok-from_str.field-0; credit = c.args.credit; standing = c.args.standing } in
    let pushed : c.add.new.self ≡ c.self.inside.jobs ++ entry ∷ [] = c.in_ok-add.ensures.added in
    let few = c.if-cost-recallable.false in
    let within = c.recallable_of-recallable.ensures.within in
    let cost = c.from-cost.ensures in
    let spent = c.spent.ensures in
    rw (← c.self.view_is)
    (subst (λ (js : List JobEntry). Recalls (ledger_of c.self.inside.tenants c.self.inside.jobs) c.args.tenant.now c.args.credit c.args.standing (ledger_of c.change.new.tenants js)) (sym pushed)
    (recalls c.self.inside.jobs entry c.args.tenant.now c.in-Some.sums (c.recallable_of-recallable.result - c.from-cost.result) c.in_ok-from_str.ensures.ok
    (sym c.is_open.ensures ∙ c.if-is_open.false) (omega (arith, few, within, cost, spent))
    c.self.inside.tenants c.change.new.tenants (sym c.in-Some.ensures) c.change.ensures c.args.credit c.args.standing refl refl))
