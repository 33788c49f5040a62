-- What a desk has of a job that is over is what it came to.
use Rattle.std.proofs.Common.{◌≡◌, ◌+◌, ◌-◌, ℕ, zero, suc, List, [], ◌∷◌, slice_get, slice_set, nat_eq, if◌then◌else◌, Bool, true, false, Option, None, Some, Result, Ok, Err, refl, sym, ap, subst, ◌∙◌}
use Rattle.credit_book.specs.declared.book.Report.{Report}
use Rattle.accounts.specs.declared.fault.DeskFault.TheVariants as fault
use Rattle.accounts.specs.declared.jobs.JobEntry.{JobEntry}
use Rattle.accounts.specs.declared.jobs.JobStanding.{JobStanding}
use Rattle.accounts.specs.declared.jobs.JobStanding.TheVariants.{Reported, Failed}
use Rattle.accounts.specs.Jobs.{job_at, report_of, settled}
use Rattle.accounts.specs.Ledgers.{Finishes, HasJobs, Ledger, report_at, report_in}

standing_if : Bool → Report → JobStanding
standing_if b report = if b then Reported report else Failed 82

same_report : (b : Bool) (r report : Report) → report_of (standing_if b r) ≡ Ok report → r ≡ report
unfolding standing_if
same_report true r report is = cc
same_report false r report is = absurd cc

failed_if : (b : Bool) (r : Report) (code : ℕ) → report_of (standing_if b r) ≡ Err (fault.Failed code) → standing_if b r ≡ Failed code
unfolding standing_if
failed_if true r code is = absurd cc
failed_if false r code is = cc

reported : (credit : ℕ) (outcome : Result Report ℕ) (report : Report) → report_of (settled credit outcome) ≡ Ok report → settled credit outcome ≡ settled credit (Ok report)
unfolding standing_if
reported credit (Ok r) report is = ap (λ (x : Report). settled credit (Ok x)) (same_report (nat_eq (r.spent + r.returned) credit) r report is)
reported credit (Err code) report is = absurd cc

failed : (credit : ℕ) (outcome : Result Report ℕ) (code : ℕ) → report_of (settled credit outcome) ≡ Err (fault.Failed code) → settled credit outcome ≡ settled credit (Err code)
unfolding standing_if
failed credit (Ok r) code is = failed_if (nat_eq (r.spent + r.returned) credit) r code is
failed credit (Err c) code is = cc

-- ---- the entry of a job that is over

set_here : {X : Type 0} (xs : List X) (i : ℕ) (x y : X) → slice_get xs i ≡ Some x → slice_get (slice_set xs i y) i ≡ Some y
set_here [] i x y at = cc
set_here (z ∷ xs) zero x y at = refl
set_here (z ∷ xs) (suc i) x y at = set_here xs i x y at

get_if : Bool → Option JobEntry → Option JobEntry
get_if b o = if b then None else o

set_if : (b : Bool) (jobs : List JobEntry) (i : ℕ) (x y : JobEntry) → get_if b (slice_get jobs i) ≡ Some x → get_if b (slice_get (slice_set jobs i y) i) ≡ Some y
unfolding get_if
set_if true jobs i x y at = absurd cc
set_if false jobs i x y at = set_here jobs i x y at

set_at : (jobs : List JobEntry) (number : ℕ) (x y : JobEntry) → job_at jobs number ≡ Some x → job_at (slice_set jobs (number - 1) y) number ≡ Some y
unfolding get_if
set_at jobs number x y at = set_if (nat_eq number 0) jobs (number - 1) x y at

module _ (old new : Ledger) (number : ℕ) (outcome : Result Report ℕ) (over : Finishes old number outcome new) where
  told_there : report_at new number ≡ report_of (settled over.entry.credit outcome)
  unfolding report_at
  told_there = ap report_in (ap (λ (l : List JobEntry). job_at l number) over.jobs.jobs ∙ set_at old.jobs number over.entry (record over.entry { standing = settled over.entry.credit outcome }) over.was)

  ends_by : (other : Result Report ℕ) → settled over.entry.credit outcome ≡ settled over.entry.credit other → Finishes old number other new
  ends_by other same = record {
    entry = over.entry;
    was = over.was;
    opened = over.opened;
    jobs = subst (λ (s : JobStanding). HasJobs old (slice_set old.jobs (number - 1) (record over.entry { standing = s })) new) same over.jobs;
  }

  pub ends_reported : (report : Report) → report_at new number ≡ Ok report → Finishes old number (Ok report) new
  ends_reported report told = ends_by (Ok report) (reported over.entry.credit outcome report (sym told_there ∙ told))

  pub ends_failed : (code : ℕ) → report_at new number ≡ Err (fault.Failed code) → Finishes old number (Err code) new
  ends_failed code told = ends_by (Err code) (failed over.entry.credit outcome code (sym told_there ∙ told))
