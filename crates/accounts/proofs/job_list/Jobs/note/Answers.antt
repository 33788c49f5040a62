use Rattle.std.proofs.Common.{◌≡◌, ◌+◌, ◌-◌, ℕ, List, slice_set, refl, sym, ap, ◌∙◌, arith}
use Rattle.accounts.specs.declared.jobs.JobEntry.{JobEntry}
use Rattle.accounts.specs.declared.kept_jobs.KeptJobs.{KeptJobs}
use Rattle.accounts.specs.Jobs.{job_at}
use Rattle.accounts.specs.Numbered.{jobs_numbered}
use Rattle.accounts.proofs.Listed.{noted_fits, noted_list, noted_sound, open_there, same_some}
use Rattle.accounts.proofs.job_list.Jobs.note.Goals as goal

pub overflow_add-self : goal.overflow_add-self
overflow_add-self c =
    let k = c.self.inside.inner in
    let r = c.requires in
    let at = open_there k c.self.invariant c.args.job r.0 (ap (λ (js : List JobEntry). job_at js c.args.job) c.self.view_is ∙ r.1) r.2 in
    let fits = noted_fits k c.self.invariant c.args.job r.0 at r.2 c.args.standing in
    let is = c.held_bytes.ensures in
    omega (arith, fits, is)

pub put_standing-requires : goal.put_standing-requires
put_standing-requires c =
    let r = c.requires in
    (r.0, open_there c.self.inside.inner c.self.invariant c.args.job r.0 (ap (λ (js : List JobEntry). job_at js c.args.job) c.self.view_is ∙ r.1) r.2)

pub invariant_of-self : goal.invariant_of-self
invariant_of-self c =
    let k = c.self.inside.inner in
    let r = c.requires in
    let at = open_there k c.self.invariant c.args.job r.0 (ap (λ (js : List JobEntry). job_at js c.args.job) c.self.view_is ∙ r.1) r.2 in
    let after : KeptJobs = record { count = k.count; held = k.held + c.held_bytes.result; gone = k.gone; kept = c.put_standing.new.kept } in
    noted_sound k c.self.invariant c.args.job r.0 at r.2 c.args.standing after refl refl (ap (λ (n : ℕ). k.held + n) c.held_bytes.ensures)
    (c.put_standing.ensures.here r.0 at) c.put_standing.ensures.others

pub returns : goal.returns
returns c = λ entry is.
    let k = c.self.inside.inner in
    let r = c.requires in
    let at = open_there k c.self.invariant c.args.job r.0 (ap (λ (js : List JobEntry). job_at js c.args.job) c.self.view_is ∙ r.1) r.2 in
    let after : KeptJobs = record { count = k.count; held = k.held + c.held_bytes.result; gone = k.gone; kept = c.put_standing.new.kept } in
    let same : r.0 ≡ entry = same_some r.0 entry (sym r.1 ∙ is) in
    rw (← c.self.view_is)
    (noted_list k c.self.invariant c.args.job r.0 at r.2 c.args.standing after refl refl (ap (λ (n : ℕ). k.held + n) c.held_bytes.ensures)
    (c.put_standing.ensures.here r.0 at) c.put_standing.ensures.others
    ∙ ap (λ (e : JobEntry). slice_set (jobs_numbered k) (c.args.job - 1) (record e { standing = c.args.standing })) same)
