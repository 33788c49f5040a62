use Rattle.std.proofs.Common.{refl, ap}
use Rattle.std.specs.BTreeMap as tree
use Rattle.accounts.specs.Ledgers.{ledger_of}
use Rattle.accounts.proofs.Forgets.{none_forgotten_at}
use Rattle.accounts.proofs.Keeping.{kept_left, accounts_left}
use Rattle.accounts.proofs.desk.Desk.keep_within.Goals as goal

pub invariant_of-self : goal.invariant_of-self
invariant_of-self c = kept_left c.self.inside.jobs c.keep_within.result c.keep_within.new.self c.keep_within.ensures.forgets (tree.get_by_text c.self.inside.tenants) c.self.invariant

pub returns-clause-kept : goal.returns-clause-kept
returns-clause-kept c = rw (← c.self.view_is) (
  c.keep_within.result,
  record {
    forgets = record {
      jobs = c.keep_within.ensures.forgets;
      grants = λ q. refl;
      accounts = accounts_left c.self.inside.jobs c.keep_within.result c.keep_within.new.self c.keep_within.ensures.forgets c.self.inside.tenants c.self.invariant;
    };
    within = c.keep_within.ensures.within;
    same = λ none. ap (ledger_of c.self.inside.tenants)
        (none_forgotten_at c.self.inside.jobs c.keep_within.result c.keep_within.new.self c.keep_within.ensures.forgets none);
  },
)

pub returns-clause-forgets : goal.returns-clause-forgets
returns-clause-forgets c = rw (← c.self.view_is) (record {
  forgets = record {
    jobs = c.keep_within.ensures.forgets;
    grants = λ q. refl;
    accounts = accounts_left c.self.inside.jobs c.keep_within.result c.keep_within.new.self c.keep_within.ensures.forgets c.self.inside.tenants c.self.invariant;
  };
  within = c.keep_within.ensures.within;
  same = λ none. ap (ledger_of c.self.inside.tenants)
      (none_forgotten_at c.self.inside.jobs c.keep_within.result c.keep_within.new.self c.keep_within.ensures.forgets none);
})
