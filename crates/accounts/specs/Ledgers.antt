-- The desk's plain state.
use Rattle.std.specs.Prelude.{◌≡◌, ◌⊎◌, ℕ, ◌+◌, ◌-◌, ◌≤◌, ◌<◌, List, ◌++◌, [], ◌∷◌, map, sum_by, slice_get, slice_set, Option, Some, None, Result, Ok, Err, unwrap_or, String, string_bytes}
use Rattle.std.specs.BTreeMap.{BTreeMap}
use Rattle.std.specs.Map.{lookup, update}
use Rattle.std.specs.Str.{bytes_eq}
use Rattle.job_core.specs.declared.admission.ProgramBytes.{ProgramBytes}
use Rattle.job_core.specs.Admission.{RefusesJob}
use Rattle.accounts.specs.declared.fault.DeskFault.{DeskFault}
use Rattle.accounts.specs.declared.fault.DeskFault.TheVariants as fault
use Rattle.accounts.specs.declared.fault.SubmitFault.{SubmitFault}
use Rattle.accounts.specs.declared.fault.SubmitFault.TheVariants as submit
use Rattle.accounts.specs.declared.tenants.Sums.{Sums}
use Rattle.accounts.specs.declared.tenants.Account.{Account}
use Rattle.accounts.specs.declared.jobs.JobEntry.{JobEntry}
use Rattle.credit_book.specs.declared.board.Progress.{Progress}
use Rattle.accounts.specs.declared.jobs.JobStanding.TheVariants.{Open}
use Rattle.credit_book.specs.declared.book.Report.{Report}
use Rattle.accounts.specs.Accounts.{account_with}
use Rattle.accounts.specs.Jobs.{job_at, settled, progress_of, report_of, opened_for, spent_for}
use Rattle.accounts.specs.Forgetting.{ForgetsJobs, IsGone}
use Rattle.accounts.specs.declared.keep_limits.KeepLimits.{KeepLimits}
use Rattle.accounts.specs.Limits.{IsKeptWithin}

-- Each tenant's name and the sum of its grants; each tenant's name and what its forgotten jobs
-- spent; and each job, also in the place of each that is forgotten. The first job is number 1.
pub record Ledger : Type 0 where
  pub grants : List (List ℕ × ℕ)
  pub past : List (List ℕ × ℕ)
  pub jobs : List JobEntry

-- all grants of a tenant
abbrev pub most_granted : ℕ
most_granted = 1000000000000

abbrev pub granted_to : Ledger → List ℕ → Option ℕ
granted_to ledger name = lookup (bytes_eq name) ledger.grants

-- what a tenant's forgotten jobs spent
abbrev pub past_of : Ledger → List ℕ → ℕ
past_of ledger name = unwrap_or (lookup (bytes_eq name) ledger.past) 0

-- the credit of a tenant's open jobs, and what its jobs spent that aren't forgotten
abbrev pub opened_by : List JobEntry → List ℕ → ℕ
opened_by jobs name = sum_by (opened_for name) jobs

abbrev pub spent_by_jobs : List JobEntry → List ℕ → ℕ
spent_by_jobs jobs name = sum_by (spent_for name) jobs

-- a tenant's account, if it was granted something
abbrev pub account_in : List JobEntry → ℕ → List ℕ → Option ℕ → Result Account DeskFault
account_in jobs past name (Some granted) =
    Ok (account_with granted (opened_by jobs name) (past + spent_by_jobs jobs name))
account_in jobs past name None = Err fault.NoTenant

unfoldable pub account_at : Ledger → List ℕ → Result Account DeskFault
account_at ledger name =
    account_in ledger.jobs (past_of ledger name) name (granted_to ledger name)

-- what was granted changes for one tenant alone
pub record GrantsMore (old : Ledger) (name : List ℕ) (amount : ℕ) (new : Ledger) : Type 0 where
  pub grants : (q : List ℕ) → granted_to new q ≡ update bytes_eq (granted_to old) name
      (Some (unwrap_or (granted_to old name) 0 + amount)) q
  pub past : (q : List ℕ) → past_of new q ≡ past_of old q
  pub jobs : new.jobs ≡ old.jobs

-- the jobs change, and what was granted doesn't
pub record HasJobs (old : Ledger) (entries : List JobEntry) (new : Ledger) : Type 0 where
  pub grants : (q : List ℕ) → granted_to new q ≡ granted_to old q
  pub past : (q : List ℕ) → past_of new q ≡ past_of old q
  pub jobs : new.jobs ≡ entries

-- why a grant is refused
abbrev pub RefusesGrant : Ledger → List ℕ → ℕ → DeskFault → Type 0
RefusesGrant old name amount fault.TooLarge =
    most_granted < unwrap_or (granted_to old name) 0 + amount
RefusesGrant old name amount fault.NoMemory = granted_to old name ≡ None
RefusesGrant old name amount other = ⊥

-- a tenant's balance is this
pub record HasBalance (ledger : Ledger) (name : List ℕ) (balance : ℕ) : Type 0 where
  pub account : Account
  pub is : account_at ledger name ≡ Ok account
  pub same : account.balance ≡ balance

-- a job is taken: it is the last one, and open
pub record Takes (old : Ledger) (name : List ℕ) (credit : ℕ) (new : Ledger) : Type 0 where
  pub entry : JobEntry
  pub tenant : string_bytes entry.tenant ≡ name
  pub credited : entry.credit ≡ credit
  pub opened : entry.standing ≡ Open
  pub balance : ℕ
  pub had : HasBalance old name balance
  pub enough : credit ≤ balance
  pub jobs : HasJobs old (old.jobs ++ entry ∷ []) new

-- why a job isn't taken, in this order
abbrev pub RefusesSubmit : Ledger → List ℕ → List ProgramBytes → ℕ → List ℕ → SubmitFault → Type 0
RefusesSubmit old name programs credit buffer submit.NoTenant = granted_to old name ≡ None
RefusesSubmit old name programs credit buffer submit.BalanceLow =
    (balance : ℕ) × HasBalance old name balance × (balance < credit)
RefusesSubmit old name programs credit buffer (submit.Admit why) =
    (balance : ℕ) × HasBalance old name balance × (credit ≤ balance)
    × RefusesJob programs credit buffer why

-- an open job is over
pub record Finishes (old : Ledger) (number : ℕ) (outcome : Result Report ℕ) (new : Ledger) :
    Type 0 where
  pub entry : JobEntry
  pub was : job_at old.jobs number ≡ Some entry
  pub opened : entry.standing ≡ Open
  pub jobs : HasJobs old
      (slice_set old.jobs (number - 1) (record entry { standing = settled entry.credit outcome }))
      new

-- Of the first so many jobs, those that are over are forgotten, and each account is as it was.
pub record Forgets (old : Ledger) (ahead : ℕ) (new : Ledger) : Type 0 where
  pub jobs : ForgetsJobs old.jobs ahead new.jobs
  pub grants : (q : List ℕ) → granted_to new q ≡ granted_to old q
  pub accounts : (q : List ℕ) → account_at new q ≡ account_at old q

-- The same, of so many as these limits ask for. Of none, it leaves all as it was.
pub record ForgetsTo (limits : KeepLimits) (old : Ledger) (ahead : ℕ) (new : Ledger) :
    Type 0 where
  pub forgets : Forgets old ahead new
  pub within : IsKeptWithin limits old.jobs ahead new.jobs
  pub same : ahead ≡ 0 → new ≡ old

-- what isn't forgotten is within these limits, and no more is forgotten than has to be
abbrev pub KeepsWithin : KeepLimits → Ledger → Ledger → Type 0
KeepsWithin limits old new = (ahead : ℕ) × ForgetsTo limits old ahead new

-- no open job has the number
abbrev pub IsNotOpen : Ledger → ℕ → Type 0
IsNotOpen ledger number = (entry : JobEntry) → job_at ledger.jobs number ≡ Some entry
    → entry.standing ≡ Open → ⊥

abbrev pub progress_in : Option JobEntry → Progress → Result Progress DeskFault
progress_in (Some entry) seen = progress_of entry.standing seen
progress_in None seen = Err fault.NoJob

unfoldable pub progress_at : Ledger → ℕ → Progress → Result Progress DeskFault
progress_at ledger number seen = progress_in (job_at ledger.jobs number) seen

abbrev pub report_in : Option JobEntry → Result Report DeskFault
report_in (Some entry) = report_of entry.standing
report_in None = Err fault.NoJob

unfoldable pub report_at : Ledger → ℕ → Result Report DeskFault
report_at ledger number = report_in (job_at ledger.jobs number)

-- ---- what the desk keeps

-- The sums are those of the tenant's jobs, with those that are forgotten, and within the grants. No
-- job that is kept spent what may be recalled.
pub record IsSummed (jobs : List JobEntry) (name : List ℕ) (sums : Sums) : Type 0 where
  pub opened : sums.opened ≡ opened_by jobs name
  pub spent : sums.recallable + spent_by_jobs jobs name ≤ sums.spent
  pub within : sums.opened + sums.spent ≤ sums.granted
  pub limit : sums.granted ≤ most_granted

-- each tenant's sums are right, and each job is a tenant's that isn't forgotten
pub record IsBalanced (sums : List ℕ → Option Sums) (jobs : List JobEntry) : Type 0 where
  pub each : (name : List ℕ) (s : Sums) → sums name ≡ Some s → IsSummed jobs name s
  pub owned : (n : ℕ) (entry : JobEntry) → slice_get jobs n ≡ Some entry
      → IsGone entry ⊎ ((s : Sums) × (sums (string_bytes entry.tenant) ≡ Some s))

-- what the tenants' map says of the grants
abbrev pub granted_by : {Y : Type 0} → String Y × Sums → List ℕ × ℕ
granted_by entry = (string_bytes entry.0, entry.1.granted)

-- what the forgotten jobs of a tenant spent: what all spent, but for those that aren't forgotten
abbrev pub spent_before : {Y : Type 0} → List JobEntry → String Y × Sums → List ℕ × ℕ
spent_before jobs entry =
    (string_bytes entry.0, entry.1.spent - spent_by_jobs jobs (string_bytes entry.0))

abbrev pub ledger_of : {Y : Type 0} → BTreeMap (String Y) Sums → List JobEntry → Ledger
ledger_of tenants jobs =
    record {
      grants = map granted_by tenants.entries;
      past = map (spent_before jobs) tenants.entries;
      jobs = jobs;
    }
