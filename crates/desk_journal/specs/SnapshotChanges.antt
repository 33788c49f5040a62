-- The changes of a snapshot: each account, then the jobs in the order of their numbers.
use Rattle.std.specs.Prelude.{◌≡◌, ◌⊎◌, ◌<◌, ◌^◌, ℕ, List, [], ◌∷◌, ◌++◌, All, length, slice_get, Some, Vec, string_bytes}
use Rattle.std.specs.List.{AllZip}
use Rattle.std.specs.declared.alloc.Global.{Global}
use Rattle.accounts.specs.Forgetting.{IsGone}
use Rattle.accounts.specs.declared.jobs.JobEntry.{JobEntry}
use Rattle.accounts.specs.declared.jobs.JobStanding.TheVariants.{Open, Reported, Failed}
use Rattle.accounts.specs.declared.kept_accounts.KeptAccount.{KeptAccount}
use Rattle.accounts.specs.Restoring.{AreKeptAccounts}
use Rattle.credit_book.specs.declared.book.Report.{Report}
use Rattle.journal.specs.Records.{FitsRecord}
use Rattle.job_core.specs.Admitted.{AdmittedJob}
use Rattle.desk_journal.specs.DeskChanges.{change_bytes}
use Rattle.desk_journal.specs.DeskSteps.{DeskState}
use Rattle.desk_journal.specs.HeldJobs.{IsTakenBy}
use Rattle.desk_journal.specs.declared.change.DeskChange.TheVariants.{AccountOpened, JobsSkipped, ReportKept, FailureKept}

-- the change that opens a tenant's account
pub record IsAccountChange (account : KeptAccount) (payload : List ℕ) : Type 0 where
  pub tenant : Vec ℕ Global
  pub same : tenant.items ≡ string_bytes account.tenant
  pub is : payload ≡ change_bytes (AccountOpened tenant account.granted account.spent)

abbrev pub AreAccountChanges : List KeptAccount → List (List ℕ) → Type 0
AreAccountChanges = AllZip IsAccountChange

-- the change that puts a job with a report back
pub record IsReportChange (entry : JobEntry) (payload : List ℕ) : Type 0 where
  pub tenant : Vec ℕ Global
  pub report : Report
  pub same : tenant.items ≡ string_bytes entry.tenant
  pub standing : entry.standing ≡ Reported report
  pub credit : entry.credit < 2 ^ 32
  pub spent : report.spent < 2 ^ 32
  pub returned : report.returned < 2 ^ 32
  pub is : payload ≡ change_bytes (ReportKept tenant entry.credit report)

-- the change that puts a job back that failed
pub record IsFailureChange (entry : JobEntry) (payload : List ℕ) : Type 0 where
  pub tenant : Vec ℕ Global
  pub code : ℕ
  pub same : tenant.items ≡ string_bytes entry.tenant
  pub standing : entry.standing ≡ Failed code
  pub credit : entry.credit < 2 ^ 32
  pub is : payload ≡ change_bytes (FailureKept tenant entry.credit code)

-- so many jobs, all of them gone
pub record IsGoneChange (gone : List JobEntry) (payload : List ℕ) : Type 0 where
  pub are : All IsGone gone
  pub few : length gone < 2 ^ 64
  pub is : payload ≡ change_bytes (JobsSkipped (length gone))

-- These are the changes of these jobs: of each run of gone ones, of each other one that is over, and
-- of each open one the change that took it. The last is that of a run, which may be of none.
pub data AreJobChanges : List JobEntry → List (Vec ℕ Global) → List (List ℕ) → Type 0 where
  last_run : (gone : List JobEntry) (payload : List ℕ) → IsGoneChange gone payload
      → AreJobChanges gone [] (payload ∷ [])
  one_run : (gone jobs : List JobEntry) (sources : List (Vec ℕ Global)) (payload : List ℕ)
      (payloads : List (List ℕ)) → IsGoneChange gone payload
      → AreJobChanges jobs sources payloads → AreJobChanges (gone ++ jobs) sources (payload ∷ payloads)
  one_kept : (entry : JobEntry) (jobs : List JobEntry) (sources : List (Vec ℕ Global))
      (payload : List ℕ) (payloads : List (List ℕ)) → (IsGone entry → ⊥)
      → IsReportChange entry payload ⊎ IsFailureChange entry payload
      → AreJobChanges jobs sources payloads
      → AreJobChanges (entry ∷ jobs) sources (payload ∷ payloads)
  one_taken : (entry : JobEntry) (jobs : List JobEntry) (source : Vec ℕ Global)
      (sources : List (Vec ℕ Global)) (payloads : List (List ℕ)) → entry.standing ≡ Open
      → AreJobChanges jobs sources payloads
      → AreJobChanges (entry ∷ jobs) (source ∷ sources) (source.items ∷ payloads)

-- ---- changes that no record holds

-- one of these accounts has a change that is too long for a record
abbrev pub HasLargeAccount : List KeptAccount → Type 0
HasLargeAccount [] = ⊥
HasLargeAccount (account ∷ accounts) =
    ((payload : List ℕ) × IsAccountChange account payload × (FitsRecord payload → ⊥))
    ⊎ HasLargeAccount accounts

-- the change that puts a job back, if it is over, or else the one that took it
abbrev pub IsEntryChange : JobEntry → List ℕ → Type 0
IsEntryChange entry payload =
    IsReportChange entry payload ⊎ (IsFailureChange entry payload
    ⊎ ((job : AdmittedJob) × IsTakenBy payload entry job))

-- one of these jobs has a change that is too long for a record
abbrev pub HasLargeJob : List JobEntry → Type 0
HasLargeJob jobs =
    (n : ℕ) × (entry : JobEntry) × (payload : List ℕ) × (slice_get jobs n ≡ Some entry)
    × IsEntryChange entry payload × (FitsRecord payload → ⊥)

-- a tenant's account or a job of the desk has a change that is too long for a record
abbrev pub HasLargeChange : DeskState → Type 0
HasLargeChange state =
    ((accounts : List KeptAccount) × AreKeptAccounts state.desk accounts × HasLargeAccount accounts)
    ⊎ HasLargeJob state.desk.jobs
