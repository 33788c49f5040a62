-- A desk that is put together again from what was kept of another: first its tenants, then its jobs.
use Rattle.std.specs.Prelude.{◌≡◌, ◌⊎◌, ◌+◌, ◌≤◌, ◌<◌, ℕ, List, [], ◌∷◌, ◌++◌, All, length, map, slice_get, if◌then◌else◌, Option, None, Some, true, false, string_bytes}
use Rattle.std.specs.List.{IsDistinct}
use Rattle.std.specs.Map.{keys_of, update}
use Rattle.std.specs.Str.{bytes_eq}
use Rattle.accounts.specs.declared.jobs.JobEntry.{JobEntry}
use Rattle.accounts.specs.declared.jobs.JobStanding.{JobStanding}
use Rattle.accounts.specs.declared.kept_accounts.KeptAccount.{KeptAccount}
use Rattle.accounts.specs.declared.fault.RestoreFault.{RestoreFault}
use Rattle.accounts.specs.declared.fault.RestoreFault.TheVariants as fault
use Rattle.accounts.specs.Forgetting.{IsGone, IsJobOver}
use Rattle.accounts.specs.Jobs.{is_open, job_at, spent_by_job, spent_for}
use Rattle.accounts.specs.Ledgers.{Ledger, HasJobs, granted_to, most_granted, opened_by, past_of, spent_by_jobs}
use Rattle.accounts.specs.Numbered.{most_jobs}

-- ---- what is put back

-- A tenant is there with the sum of its grants, and with what its jobs spent. The desk has no job
-- yet, so that all of this counts as spent by forgotten ones.
pub record OpensAccount (old : Ledger) (name : List ℕ) (granted spent : ℕ) (new : Ledger) :
    Type 0 where
  pub early : old.jobs ≡ []
  pub fresh : granted_to old name ≡ None
  pub within : spent ≤ granted
  pub limit : granted ≤ most_granted
  pub grants : (q : List ℕ) → granted_to new q
      ≡ update bytes_eq (granted_to old) name (Some granted) q
  pub past : (q : List ℕ) → past_of new q
      ≡ (if bytes_eq name q then spent else past_of old q)
  pub jobs : new.jobs ≡ []

-- so many forgotten jobs come behind the others
pub record AddsGone (old : Ledger) (count : ℕ) (new : Ledger) : Type 0 where
  pub gone : List JobEntry
  pub counted : length gone ≡ count
  pub are : All IsGone gone
  pub jobs : HasJobs old (old.jobs ++ gone) new

-- A tenant's job that is over comes behind the others. What it spent had counted as spent by a
-- forgotten one, so each account is as it was.
pub record Recalls (old : Ledger) (name : List ℕ) (credit : ℕ) (standing : JobStanding)
    (new : Ledger) : Type 0 where
  pub entry : JobEntry
  pub tenant : string_bytes entry.tenant ≡ name
  pub credited : entry.credit ≡ credit
  pub stands : entry.standing ≡ standing
  pub over : IsJobOver entry
  pub known : (sum : ℕ) × (granted_to old name ≡ Some sum)
  pub grants : (q : List ℕ) → granted_to new q ≡ granted_to old q
  pub past : (q : List ℕ) → past_of new q + spent_for q entry ≡ past_of old q
  pub jobs : new.jobs ≡ old.jobs ++ entry ∷ []

-- ---- what isn't

-- Why an account isn't opened. For want of memory none is where nothing else speaks against it.
abbrev pub RefusesAccount : Ledger → List ℕ → ℕ → ℕ → RestoreFault → Type 0
RefusesAccount old name granted spent fault.TooLate = 1 ≤ length old.jobs
RefusesAccount old name granted spent fault.KnownTenant =
    (sum : ℕ) × (granted_to old name ≡ Some sum)
RefusesAccount old name granted spent fault.WrongSums =
    (granted < spent) ⊎ (most_granted < granted)
RefusesAccount old name granted spent fault.NoMemory =
    (old.jobs ≡ []) × (granted_to old name ≡ None) × (spent ≤ granted) × (granted ≤ most_granted)
RefusesAccount old name granted spent other = ⊥

-- why no forgotten jobs are added
abbrev pub RefusesGone : Ledger → ℕ → RestoreFault → Type 0
RefusesGone old count fault.TooManyJobs = most_jobs < length old.jobs + count
RefusesGone old count other = ⊥

-- Why a job isn't recalled. For want of memory none is where nothing else speaks against it.
abbrev pub RefusesRecall : Ledger → List ℕ → JobStanding → RestoreFault → Type 0
RefusesRecall old name standing fault.NotOver = is_open standing ≡ true
RefusesRecall old name standing fault.UnknownTenant = granted_to old name ≡ None
RefusesRecall old name standing fault.WrongSums = past_of old name < spent_by_job standing
RefusesRecall old name standing fault.TooManyJobs = most_jobs ≤ length old.jobs
RefusesRecall old name standing fault.NoMemory =
    (is_open standing ≡ false) × ((sum : ℕ) × (granted_to old name ≡ Some sum))
    × (spent_by_job standing ≤ past_of old name) × (length old.jobs < most_jobs)
RefusesRecall old name standing other = ⊥

-- ---- what is read of a desk, to be put back

-- what is told of a tenant: the sum of its grants, and what all of its jobs spent
pub record IsKeptAccount (ledger : Ledger) (account : KeptAccount) : Type 0 where
  pub granted : granted_to ledger (string_bytes account.tenant) ≡ Some account.granted
  pub spent : account.spent ≡ past_of ledger (string_bytes account.tenant)
      + spent_by_jobs ledger.jobs (string_bytes account.tenant)
  pub within : account.spent + opened_by ledger.jobs (string_bytes account.tenant)
      ≤ account.granted
  pub limit : account.granted ≤ most_granted

-- a tenant's name and the sum of its grants
abbrev pub grant_kept : KeptAccount → List ℕ × ℕ
grant_kept account = (string_bytes account.tenant, account.granted)

-- each job is gone, or it is the job of a tenant
abbrev pub AreTenantsJobs : Ledger → Type 0
AreTenantsJobs ledger = (n : ℕ) (entry : JobEntry) → slice_get ledger.jobs n ≡ Some entry
    → IsGone entry ⊎ ((sum : ℕ) × (granted_to ledger (string_bytes entry.tenant) ≡ Some sum))

-- These are all tenants, each of them once, in the order in which the desk has them. Nobody else's
-- jobs spent anything.
pub record AreKeptAccounts (ledger : Ledger) (accounts : List KeptAccount) : Type 0 where
  pub grants : map grant_kept accounts ≡ ledger.grants
  pub once : IsDistinct bytes_eq (keys_of ledger.grants)
  pub each : (n : ℕ) (account : KeptAccount) → slice_get accounts n ≡ Some account
      → IsKeptAccount ledger account
  pub owned : AreTenantsJobs ledger
  pub nobody : (q : List ℕ) → granted_to ledger q ≡ None → past_of ledger q ≡ 0

-- This is the number of the first job from a number on that isn't gone, or one that no job has: the
-- number itself, or the first one behind all jobs.
pub record IsNextKept (jobs : List JobEntry) (number next : ℕ) : Type 0 where
  pub later : number ≤ next
  pub between : (n : ℕ) (entry : JobEntry) → number ≤ n → n < next → job_at jobs n ≡ Some entry
      → IsGone entry
  pub here : (entry : JobEntry) → job_at jobs next ≡ Some entry → IsGone entry → ⊥
  pub first : (next ≡ number) ⊎ (next ≤ length jobs + 1)
