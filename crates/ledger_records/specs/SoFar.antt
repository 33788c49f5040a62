-- A desk that is put together from records, of which the first ones are done.
use Rattle.std.specs.Prelude.{ℕ, ◌≡◌, ◌≢◌, ◌⊎◌, ◌+◌, ◌<◌, ◌≤◌, ◌==◌, Bool, true, List, [], ◌∷◌, ◌++◌, All, find, length, option_map, pos, Option, Some, None}
use Rattle.std.specs.List.{list_any}
use Rattle.sqlite_keyed.specs.Keyed.{get_by}
use Rattle.accounts.specs.Jobs.{job_at}
use Rattle.accounts.specs.Ledgers.{Ledger, Takes, granted_to, past_of}
use Rattle.accounts.specs.Restoring.{AddsGone, Recalls}
use Rattle.accounts.specs.declared.jobs.JobStanding.{JobStanding}
use Rattle.desk_journal.specs.Changes.{program_bytes}
use Rattle.desk_journal.specs.Encodings.{list_bytes}
use Rattle.job_core.specs.Admission.{IsAdmittedFrom}
use Rattle.job_core.specs.declared.admission.ProgramBytes.{ProgramBytes}
use Rattle.sessions.specs.JobKeys.{noted}
use Rattle.sessions.specs.declared.job_key.KeyedJob.{KeyedJob}
use Rattle.desk_records.specs.Columns.{id_of, most_numbers}
use Rattle.desk_records.specs.Made.{outcome_key, stored_job_key}
use Rattle.desk_records.specs.declared.stored_desk.StoredDesk.{StoredDesk}
use Rattle.desk_records.specs.declared.stored_job.StoredJob.{StoredJob}
use Rattle.desk_records.specs.declared.stored_key.StoredKey.{StoredKey}
use Rattle.desk_records.specs.declared.stored_outcome.StoredOutcome.{StoredOutcome}
use Rattle.desk_records.specs.declared.stored_tenant.StoredTenant.{StoredTenant}
use Rattle.ledger_records.specs.DeskRecords.{keyed_jobs_of}
use Rattle.ledger_records.specs.LedgerRecords.{CameTo, HasFewerJobs, HasFewerKeyed, StandsAs, is_row_of, is_tenant, spent_of}
use Rattle.ledger_records.specs.declared.restored_job.RestoredJob.{RestoredJob}

-- the ledger has the accounts of these tenants, and no job
pub record HasAccounts (desk : ℕ) (tenants : List StoredTenant) (ledger : Ledger) : Type 0 where
  pub granted : (name : List ℕ) → granted_to ledger name
      ≡ option_map (λ t. t.granted) (find (is_tenant desk name) tenants)
  pub past : (name : List ℕ) (t : StoredTenant) → find (is_tenant desk name) tenants ≡ Some t
      → past_of ledger name ≡ t.spent
  pub jobs : ledger.jobs ≡ []

-- The ledger has the accounts of all tenants, and of the jobs it has those of these records.
pub record StandsSoFar (desk : ℕ) (tenants : List StoredTenant) (jobs : List StoredJob)
    (outcomes : List StoredOutcome) (ledger : Ledger) : Type 0 where
  pub granted : (name : List ℕ) → granted_to ledger name
      ≡ option_map (λ t. t.granted) (find (is_tenant desk name) tenants)
  pub spent : (name : List ℕ) (t : StoredTenant) → find (is_tenant desk name) tenants ≡ Some t
      → spent_of ledger name ≡ t.spent
  pub stand : (number : ℕ) → 1 ≤ number → number < most_numbers
      → StandsAs (job_at ledger.jobs number) (get_by stored_job_key jobs (pos (id_of desk number)))
      (get_by outcome_key outcomes (pos (id_of desk number)))
  pub fewer : All (HasFewerJobs desk (length ledger.jobs)) jobs
  pub few : length ledger.jobs < most_numbers

-- the last job of the ledger has a record, if it has a job
abbrev pub EndsSoFar : ℕ → List StoredJob → Ledger → Type 0
EndsSoFar desk jobs ledger =
    (length ledger.jobs ≡ 0) ⊎ ((job : StoredJob)
    × (get_by stored_job_key jobs (pos (id_of desk (length ledger.jobs))) ≡ Some job))

-- the programs of a row, from which the job is admitted
pub record IsAdmittedAs (row : StoredJob) (restored : RestoredJob) : Type 0 where
  pub programs : List ProgramBytes
  pub encoded : list_bytes program_bytes programs ≡ row.programs
  pub admitted : IsAdmittedFrom programs row.credit row.buffer restored.job
  pub numbered : restored.number ≡ row.number

-- the job of a row that has no outcome
pub record IsRestoredFrom (desk : ℕ) (jobs : List StoredJob) (outcomes : List StoredOutcome)
    (restored : RestoredJob) : Type 0 where
  pub small : restored.number < most_numbers
  pub row : StoredJob
  pub is : get_by stored_job_key jobs (pos (id_of desk restored.number)) ≡ Some row
  pub open_yet : get_by outcome_key outcomes (pos (id_of desk restored.number)) ≡ None
  pub admitted : IsAdmittedAs row restored

-- A job of a row that came to this, or that is open, comes behind the others. An open one is held.
abbrev pub EndsRow : StoredJob → Option StoredOutcome → Ledger → List RestoredJob → Ledger
    → List RestoredJob → Type 0
EndsRow row (Some o) old open_jobs new after =
    ((standing : JobStanding) × CameTo standing o.outcome
    × Recalls old row.tenant row.credit standing new) × (after ≡ open_jobs)
EndsRow row None old open_jobs new after =
    Takes old row.tenant row.credit new
    × ((restored : RestoredJob) × IsAdmittedAs row restored × (after ≡ open_jobs ++ restored ∷ []))

-- The job of a row of the desk has the row's number: forgotten ones come ahead of it.
pub record PutsRow (row : StoredJob) (outcome : Option StoredOutcome) (old : Ledger)
    (open_jobs : List RestoredJob) (new : Ledger) (after : List RestoredJob) : Type 0 where
  pub count : ℕ
  pub mid : Ledger
  pub adds : AddsGone old count mid
  pub next : length old.jobs + count + 1 ≡ row.number
  pub ends : EndsRow row outcome mid open_jobs new after

-- a row of another desk is passed over
abbrev pub GoesPastRow : ℕ → StoredJob → Option StoredOutcome → Ledger → List RestoredJob → Ledger
    → List RestoredJob → Type 0
GoesPastRow desk row outcome old open_jobs new after =
    ((row.desk ≢ desk) × (new ≡ old) × (after ≡ open_jobs))
    ⊎ ((row.desk ≡ desk) × PutsRow row outcome old open_jobs new after)

-- the outcome is that of the row's job, if there is one
abbrev pub IsOutcomeOf : StoredJob → Option StoredOutcome → Type 0
IsOutcomeOf row None = Unit {0}
IsOutcomeOf row (Some o) = (o.desk ≡ row.desk) × (o.number ≡ row.number) × (o.number < most_numbers)

abbrev pub outcomes_with : List StoredOutcome → Option StoredOutcome → List StoredOutcome
outcomes_with outcomes None = outcomes
outcomes_with outcomes (Some o) = outcomes ++ o ∷ []

-- the first of these outcomes is the job's, or none is taken
abbrev pub SplitsOutcome : StoredJob → List StoredOutcome → Option StoredOutcome
    → List StoredOutcome → Type 0
SplitsOutcome row outcomes None others = others ≡ outcomes
SplitsOutcome row outcomes (Some o) others =
    (outcomes ≡ o ∷ others) × (o.desk ≡ row.desk) × (o.number ≡ row.number)

abbrev pub is_held : ℕ → List RestoredJob → Bool
is_held number = list_any (λ r. r.number == number)

-- a job of the desk without an outcome is held
abbrev pub IsHeldIfOpen : ℕ → List StoredOutcome → List RestoredJob → StoredJob → Type 0
IsHeldIfOpen desk outcomes open_jobs row =
    row.desk ≡ desk → get_by outcome_key outcomes (pos (id_of desk row.number)) ≡ None
    → is_held row.number open_jobs ≡ true

-- the open jobs of these records: each that is held has a row without an outcome, and each such row
-- of the desk is held
pub record AreOpenJobs (desk : ℕ) (jobs : List StoredJob) (outcomes : List StoredOutcome)
    (open_jobs : List RestoredJob) : Type 0 where
  pub each : All (IsRestoredFrom desk jobs outcomes) open_jobs
  pub all : All (IsHeldIfOpen desk outcomes open_jobs) jobs

-- the ledger and its open jobs, so far
pub record IsSoFar (desk : ℕ) (tenants : List StoredTenant) (jobs : List StoredJob)
    (outcomes : List StoredOutcome) (ledger : Ledger) (open_jobs : List RestoredJob) : Type 0 where
  pub stands : StandsSoFar desk tenants jobs outcomes ledger
  pub ends : EndsSoFar desk jobs ledger
  pub are : AreOpenJobs desk jobs outcomes open_jobs

-- so many forgotten jobs come behind the others as the desk's own row tells
pub record TellsMore (desk : ℕ) (desks : List StoredDesk) (old new : Ledger) : Type 0 where
  pub count : ℕ
  pub adds : AddsGone old count new
  pub row : StoredDesk
  pub is : find (is_row_of desk) desks ≡ Some row
  pub taken : row.taken ≡ length old.jobs + count
  pub few : row.taken < most_numbers

-- the same, unless the row tells of no more jobs than there are
abbrev pub TellsLast : ℕ → List StoredDesk → Ledger → Ledger → Type 0
TellsLast desk desks old new = (new ≡ old) ⊎ TellsMore desk desks old new

-- a desk that took so many jobs remembers the key of a row, if it is one of the desk
abbrev pub NotesRow : ℕ → ℕ → StoredKey → List KeyedJob → List KeyedJob → Type 0
NotesRow desk count row old new =
    ((row.desk ≢ desk) × (new ≡ old))
    ⊎ ((row.desk ≡ desk) × (row.number ≤ count) × (length old < 1000)
    × (new ≡ noted old row.number row.key))

-- the desk remembers the keys of these rows
pub record AreKeysSoFar (desk count : ℕ) (rows : List StoredKey) (keys : List KeyedJob) :
    Type 0 where
  pub are : keys ≡ keyed_jobs_of desk rows
  pub few : length keys ≤ 1000
  pub fewer : All (HasFewerKeyed desk count) rows
