use Rattle.std.proofs.Common.{◌≡◌, ◌+◌, ◌≤◌, length, refl, sym, ap, ◌∙◌, arith}
use Rattle.accounts.specs.declared.kept_jobs.KeptJobs.{KeptJobs}
use Rattle.accounts.specs.Numbered.{entry_at, jobs_numbered, most_jobs}
use Rattle.accounts.proofs.GoneRuns.{added_run, run_sound}
use Rattle.accounts.proofs.Listed.{listed_length}
use Rattle.accounts.proofs.job_list.Jobs.add_gone.Goals as goal

pub invariant_of-self : goal.invariant_of-self
invariant_of-self c =
    let k = c.self.inside.inner in
    let after : KeptJobs = record { count = k.count + c.args.count; held = k.held; gone = k.gone; kept = k.kept } in
    let long : length c.args.self.now ≡ k.count = sym (ap length c.self.view_is) ∙ listed_length (entry_at k) k.gone k.count in
    let few = c.requires in
    run_sound k c.self.invariant c.args.count after refl refl refl (λ m. refl) (omega (arith, few, long))

pub returns : goal.returns
returns c =
    let k = c.self.inside.inner in
    let after : KeptJobs = record { count = k.count + c.args.count; held = k.held; gone = k.gone; kept = k.kept } in
    rw (← c.self.view_is) (added_run k c.self.invariant c.args.count after refl refl refl (λ m. refl))
