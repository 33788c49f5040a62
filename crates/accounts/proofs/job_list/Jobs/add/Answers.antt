use Rattle.std.proofs.Common.{◌+◌, refl, ap, arith}
use Rattle.accounts.specs.declared.kept_jobs.KeptJobs.{KeptJobs}
use Rattle.accounts.proofs.Listed.{added_fits, added_list, added_sound}
use Rattle.accounts.proofs.job_list.Jobs.add.Goals as goal

pub overflow_add-self : goal.overflow_add-self
overflow_add-self c =
    let few = c.if-self-ge-MOST_JOBS.false in
    let fits = added_fits c.self.inside.inner c.args.entry c.self.invariant (omega (arith, few)) in
    let is = c.held_bytes-bytes.ensures in
    omega (arith, fits, is)

pub invariant_of-self-2 : goal.invariant_of-self-2
invariant_of-self-2 c =
    let k = c.self.inside.inner in
    let after : KeptJobs = record { count = k.count + 1; held = k.held + c.held_bytes-bytes.result; gone = k.gone; kept = c.put_job.new.kept } in
    let few = c.if-self-ge-MOST_JOBS.false in
    added_sound k c.args.entry after c.self.invariant (omega (arith, few)) refl refl (ap (λ n. k.held + n) c.held_bytes-bytes.ensures) c.in_ok-put_job.ensures.here c.in_ok-put_job.ensures.others

pub returns-clause-added : goal.returns-clause-added
returns-clause-added c =
    let k = c.self.inside.inner in
    let after : KeptJobs = record { count = k.count + 1; held = k.held + c.held_bytes-bytes.result; gone = k.gone; kept = c.put_job.new.kept } in
    let few = c.if-self-ge-MOST_JOBS.false in
    rw (← c.self.view_is)
    (added_list k c.args.entry after c.self.invariant (omega (arith, few)) refl refl (ap (λ n. k.held + n) c.held_bytes-bytes.ensures) c.in_ok-put_job.ensures.here c.in_ok-put_job.ensures.others)
