use Rattle.std.proofs.Common.{List, refl, sym, ap, ◌∙◌, subst}
use Rattle.std.specs.BTreeMap as tree
use Rattle.accounts.specs.declared.jobs.JobEntry.{JobEntry}
use Rattle.accounts.specs.Ledgers.{IsBalanced, ledger_of, past_of}
use Rattle.accounts.proofs.Restored.{kept_run, past_run}
use Rattle.accounts.proofs.desk.Desk.add_gone.Goals as goal

pub invariant_of-self : goal.invariant_of-self
invariant_of-self c =
    let run = c.add_gone.ensures in
    subst (λ (js : List JobEntry). IsBalanced (tree.get_by_text c.self.inside.tenants) js) (sym run.3)
    (kept_run c.self.inside.jobs run.0 run.2 (tree.get_by_text c.self.inside.tenants) c.self.invariant)

pub returns-clause-added : goal.returns-clause-added
returns-clause-added c =
    let run = c.add_gone.ensures in
    rw (← c.self.view_is) (record {
      gone = run.0;
      counted = run.1;
      are = run.2;
      jobs = record {
        grants = λ q. refl;
        past = λ q. ap (λ js. past_of (ledger_of c.self.inside.tenants js) q) run.3 ∙ past_run c.self.inside.jobs run.0 run.2 c.self.inside.tenants q;
        jobs = run.3;
      };
    })
