use Rattle.std.proofs.Common.{refl}
use Rattle.std.specs.BTreeMap as tree
use Rattle.accounts.proofs.Keeping.{kept_left, accounts_left}
use Rattle.accounts.proofs.desk.Desk.forget.Goals as goal

pub invariant_of-self : goal.invariant_of-self
invariant_of-self c = kept_left c.self.inside.jobs c.args.ahead c.forget.new.self c.forget.ensures (tree.get_by_text c.self.inside.tenants) c.self.invariant

pub returns : goal.returns
returns c = rw (← c.self.view_is) (record {
  jobs = c.forget.ensures;
  grants = λ q. refl;
  accounts = accounts_left c.self.inside.jobs c.args.ahead c.forget.new.self c.forget.ensures c.self.inside.tenants c.self.invariant;
})
