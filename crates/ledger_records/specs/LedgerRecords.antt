-- The ledger of a desk, and the records that stand for it.
use Rattle.std.specs.Prelude.{ℕ, ◌≡◌, ◌⊎◌, ◌+◌, ◌-◌, ◌<◌, ◌≤◌, ◌==◌, ◌&&◌, Bool, List, length, pos, find, string_bytes, option_map, Option, Some, None, ⊤, All}
use Rattle.std.specs.List.{AllZip}
use Rattle.std.specs.Str.{bytes_eq}
use Rattle.sqlite_keyed.specs.Keyed.{get_by}
use Rattle.accounts.specs.Forgetting.{IsGone}
use Rattle.accounts.specs.Jobs.{job_at}
use Rattle.accounts.specs.Ledgers.{Ledger, account_at, granted_to, past_of, spent_by_jobs}
use Rattle.accounts.specs.declared.jobs.JobEntry.{JobEntry}
use Rattle.accounts.specs.declared.jobs.JobStanding.{JobStanding}
use Rattle.accounts.specs.declared.jobs.JobStanding.TheVariants as stands
use Rattle.desk_journal.specs.AlikeDesks.{AreEntriesAlike}
use Rattle.desk_journal.specs.Changes.{task_bytes}
use Rattle.desk_journal.specs.Encodings.{list_bytes}
use Rattle.desk_records.specs.Columns.{id_of, most_numbers}
use Rattle.desk_records.specs.Made.{desk_key, outcome_key, stored_job_key}
use Rattle.desk_records.specs.Stored.{Ledgers}
use Rattle.desk_records.specs.declared.stored_desk.StoredDesk.{StoredDesk}
use Rattle.desk_records.specs.declared.stored_job.StoredJob.{StoredJob}
use Rattle.desk_records.specs.declared.stored_key.StoredKey.{StoredKey}
use Rattle.desk_records.specs.declared.stored_outcome.StoredOutcome.{StoredOutcome}
use Rattle.desk_records.specs.declared.stored_outcome.StoredResult.{StoredResult}
use Rattle.desk_records.specs.declared.stored_outcome.StoredResult.TheVariants as stored
use Rattle.desk_records.specs.declared.stored_tenant.StoredTenant.{StoredTenant}

-- the tenant of this name at the desk
abbrev pub is_tenant : ℕ → List ℕ → StoredTenant → Bool
is_tenant desk name t = (t.desk == desk) && bytes_eq t.name name

abbrev pub tenant_named : Ledgers → ℕ → List ℕ → Option StoredTenant
tenant_named l desk name = find (is_tenant desk name) l.tenants

-- the records of a desk's job, and of what it came to
abbrev pub job_record : Ledgers → ℕ → ℕ → Option StoredJob
job_record l desk number = get_by stored_job_key l.jobs (pos (id_of desk number))

abbrev pub outcome_record : Ledgers → ℕ → ℕ → Option StoredOutcome
outcome_record l desk number = get_by outcome_key l.outcomes (pos (id_of desk number))

-- the record of a desk of which jobs are forgotten
abbrev pub is_row_of : ℕ → StoredDesk → Bool
is_row_of desk d = d.desk == desk

abbrev pub desk_record : Ledgers → ℕ → Option StoredDesk
desk_record l desk = get_by desk_key l.desks (pos desk)

-- the job is that of the record
pub record IsTakenAs (entry : JobEntry) (job : StoredJob) : Type 0 where
  pub tenant : string_bytes entry.tenant ≡ job.tenant
  pub credit : entry.credit ≡ job.credit

-- the job came to this
abbrev pub CameTo : JobStanding → StoredResult → Type 0
CameTo stands.Open result = ⊥
CameTo (stands.Reported report) (stored.Failed code) = ⊥
CameTo (stands.Reported report) (stored.Reported r) =
    (report.spent ≡ r.spent) × (report.returned ≡ r.returned) × (report.buffer.items ≡ r.buffer)
    × (list_bytes task_bytes report.tasks.items ≡ r.tasks)
CameTo (stands.Failed refusal) (stored.Failed code) = refusal ≡ code
CameTo (stands.Failed refusal) (stored.Reported r) = ⊥

-- A job stands as its records tell: there is none; it is forgotten; it is open; or it is over.
abbrev pub StandsAs : Option JobEntry → Option StoredJob → Option StoredOutcome → Type 0
StandsAs None None None = ⊤
StandsAs None None (Some outcome) = ⊥
StandsAs None (Some job) outcome = ⊥
StandsAs (Some entry) None None = IsGone entry
StandsAs (Some entry) None (Some outcome) = ⊥
StandsAs (Some entry) (Some job) None = IsTakenAs entry job × (entry.standing ≡ stands.Open)
StandsAs (Some entry) (Some job) (Some outcome) =
    IsTakenAs entry job × CameTo entry.standing outcome.outcome

-- no record of a desk tells of more jobs
abbrev pub HasFewerJobs : ℕ → ℕ → StoredJob → Type 0
HasFewerJobs desk count job = job.desk ≡ desk → job.number ≤ count

abbrev pub HasFewerTaken : ℕ → ℕ → StoredDesk → Type 0
HasFewerTaken desk count d = d.desk ≡ desk → d.taken ≤ count

abbrev pub HasFewerKeyed : ℕ → ℕ → StoredKey → Type 0
HasFewerKeyed desk count key = key.desk ≡ desk → key.number ≤ count

-- The desk took so many jobs, also those that are forgotten: the last one has a record, or the
-- desk's own record tells of it.
pub record HasTaken (desk : ℕ) (l : Ledgers) (count : ℕ) : Type 0 where
  pub few : count < most_numbers
  pub jobs : All (HasFewerJobs desk count) l.jobs
  pub desks : All (HasFewerTaken desk count) l.desks
  pub keys : All (HasFewerKeyed desk count) l.keys
  pub last : (count ≡ 0) ⊎ (((job : StoredJob) × (job_record l desk count ≡ Some job))
      ⊎ ((d : StoredDesk) × (desk_record l desk ≡ Some d) × (d.taken ≡ count)))

-- what a tenant's jobs spent, also those that are forgotten
abbrev pub spent_of : Ledger → List ℕ → ℕ
spent_of ledger name = past_of ledger name + spent_by_jobs ledger.jobs name

-- these are the records of the desk's ledger
pub record IsLedgerOf (desk : ℕ) (l : Ledgers) (ledger : Ledger) : Type 0 where
  pub granted : (name : List ℕ)
      → granted_to ledger name ≡ option_map (λ t. t.granted) (tenant_named l desk name)
  pub spent : (name : List ℕ) (t : StoredTenant) → tenant_named l desk name ≡ Some t
      → spent_of ledger name ≡ t.spent
  pub jobs : (number : ℕ) → 1 ≤ number → number < most_numbers
      → StandsAs (job_at ledger.jobs number) (job_record l desk number)
      (outcome_record l desk number)
  pub taken : HasTaken desk l (length ledger.jobs)

-- A tenant's row has its number alone: who has the number is this tenant, and this tenant has no
-- other row.
pub record HasItsNumber (tenants : List StoredTenant) (t : StoredTenant) : Type 0 where
  pub same : All (λ o. o.number ≡ t.number → (o.desk ≡ t.desk) × (o.name ≡ t.name)) tenants
  pub alone : All (λ o. o.desk ≡ t.desk → o.name ≡ t.name → o.number ≡ t.number) tenants

-- ledgers of the same accounts, whose jobs are alike place by place
pub record AreLedgersAlike (first second : Ledger) : Type 0 where
  pub granted : (name : List ℕ) → granted_to first name ≡ granted_to second name
  pub accounts : (name : List ℕ) → account_at first name ≡ account_at second name
  pub jobs : AllZip AreEntriesAlike first.jobs second.jobs
