-- The report of a job is shared in its place.
use Rattle.std.proofs.Common.{◌≡◌, ◌⊎◌, ℕ, suc, ◌-◌, ◌≤◌, slice_get, refl, sym, ◌∙◌, ap, inl, inr, arith, Option, Some, None, Result, Ok, Err, OnErr}
use Rattle.refusal.specs.declared.NoMemory.{NoMemory}
use Rattle.credit_book.specs.declared.book.Report.{Report}
use Rattle.accounts.specs.declared.fault.DeskFault.TheVariants as fault
use Rattle.accounts.specs.declared.jobs.JobEntry.{JobEntry}
use Rattle.accounts.specs.declared.kept_jobs.KeptJobs.{KeptJobs}
use Rattle.accounts.specs.Numbered.{IsSound, jobs_numbered, entry_at}
use Rattle.accounts.specs.Jobs.{job_at, report_of}
use Rattle.accounts.specs.Ledgers.{Ledger, report_at, report_in}
use Rattle.accounts.proofs.Keeping.{job_there}
use Rattle.accounts.proofs.Listed.{there}

entry_of : (o : Option JobEntry) (report : Report) → report_in o ≡ Ok report →
    (entry : JobEntry) × (o ≡ Some entry) × (report_of entry.standing ≡ Ok report)
entry_of (Some entry) report is = (entry, refl, is)
entry_of None report is = cc

-- a job with a report is one that isn't forgotten
pub reported_there : (k : KeptJobs) (job : ℕ) (report : Report) → IsSound k → report_in (job_at (jobs_numbered k) job) ≡ Ok report
    → (entry : JobEntry) × (entry_at k job ≡ Some entry) × (report_of entry.standing ≡ Ok report)
reported_there k job report sound is = by (there k (job - 1) e.0 at.1).1
  where
    e : (entry : JobEntry) × (job_at (jobs_numbered k) job ≡ Some entry) × (report_of entry.standing ≡ Ok report)
    e = entry_of (job_at (jobs_numbered k) job) report is

    at : (1 ≤ job) × (slice_get (jobs_numbered k) (job - 1) ≡ Some e.0)
    at = job_there (jobs_numbered k) job e.0 e.1

    number : suc (job - 1) ≡ job
    number = let some = at.0 in omega (arith, some)

    by : (entry_at k (suc (job - 1)) ≡ Some e.0) ⊎ ((entry_at k (suc (job - 1)) ≡ None) × (k.gone ≡ e.0))
        → (entry : JobEntry) × (entry_at k job ≡ Some entry) × (report_of entry.standing ≡ Ok report)
    by (inl found) = (e.0, ap (entry_at k) (sym number) ∙ found, e.2)
    by (inr gone) =
        let clash : Err (fault.Failed 76) ≡ Ok report =
        ap report_of (sym sound.gone.standing) ∙ ap (λ (x : JobEntry). report_of x.standing) gone.1 ∙ e.2 in
        cc

pub reported_in : (ledger : Ledger) (job : ℕ) (report : Report) → report_at ledger job ≡ Ok report → report_in (job_at ledger.jobs job) ≡ Ok report
unfolding report_at
reported_in ledger job report is = is

-- why there was no room, whatever is told of it
pub refusing : {T : Type 0} (r : Result T NoMemory) (A : Type 0) → A → OnErr r A
refusing (Ok x) A why = tt
refusing (Err e) A why = why
