-- The rows that the change of a desk changes.
use Rattle.std.specs.Prelude.{ℕ, ◌≡◌, ◌+◌, ◌≤◌, ◌<◌, ◌==◌, Bool, true, List, [], ◌∷◌, ◌++◌, length, nat_lt, if◌then◌else◌, option_map, string_bytes, unwrap_or, Option, Some, None, Result}
use Rattle.std.specs.List.{list_any}
use Rattle.accounts.specs.Jobs.{settled, spent_by_job}
use Rattle.credit_book.specs.declared.book.Report.{Report}
use Rattle.desk_journal.specs.Changes.{program_bytes}
use Rattle.desk_journal.specs.Encodings.{list_bytes}
use Rattle.job_core.specs.declared.admission.ProgramBytes.{ProgramBytes}
use Rattle.sessions.specs.declared.job_key.KeyedJob.{KeyedJob}
use Rattle.desk_records.specs.Changes.{IsNarrowChange}
use Rattle.desk_records.specs.Columns.{most_numbers}
use Rattle.desk_records.specs.Made.{all_made}
use Rattle.desk_records.specs.Stored.{Ledgers}
use Rattle.desk_records.specs.declared.stored_change.ForgottenJobs.{ForgottenJobs}
use Rattle.desk_records.specs.declared.stored_change.NotedKey.{NotedKey}
use Rattle.desk_records.specs.declared.stored_change.SettledJob.{SettledJob}
use Rattle.desk_records.specs.declared.stored_change.StoredChange.{StoredChange}
use Rattle.desk_records.specs.declared.stored_change.StoredChange.TheVariants as stored
use Rattle.desk_records.specs.declared.stored_change.TakenJob.{TakenJob}
use Rattle.desk_records.specs.declared.stored_job.StoredJob.{StoredJob}
use Rattle.desk_records.specs.declared.stored_outcome.StoredOutcome.{StoredOutcome}
use Rattle.desk_records.specs.declared.stored_tenant.StoredTenant.{StoredTenant}
use Rattle.server_state.specs.declared.change.DeskChange.{DeskChange}
use Rattle.server_state.specs.declared.change.DeskChange.TheVariants.{Granted, Taken, Settled, Forgotten}
use Rattle.ledger_records.specs.DeskRecords.{keyed_jobs_of}
use Rattle.ledger_records.specs.LedgerRecords.{CameTo, HasItsNumber, HasTaken, job_record, outcome_record, tenant_named}

-- the tenant's row behind a grant of so much
pub record IsRowOfGrant (desk : ℕ) (l : Ledgers) (name : List ℕ) (amount : ℕ) (t : StoredTenant) :
    Type 0 where
  pub at : t.desk ≡ desk
  pub named : t.name ≡ name
  pub granted : t.granted
      ≡ unwrap_or (option_map (λ o. o.granted) (tenant_named l desk name)) 0 + amount
  pub spent : t.spent ≡ unwrap_or (option_map (λ o. o.spent) (tenant_named l desk name)) 0
  pub numbered : HasItsNumber l.tenants t

-- the number of the first of so many keyed jobs that is not remembered behind one more
abbrev pub first_dropped : List KeyedJob → Option ℕ
first_dropped [] = None
first_dropped (k ∷ keys) = if nat_lt (length keys) 999 then None else Some k.job

-- the row of a key by which a job came, if it came by one
abbrev pub IsRowOfKey : ℕ → Ledgers → ℕ → Option (List ℕ) → Option NotedKey → Type 0
IsRowOfKey desk l number None None = Unit {0}
IsRowOfKey desk l number None (Some noted) = ⊥
IsRowOfKey desk l number (Some key) None = ⊥
IsRowOfKey desk l number (Some key) (Some noted) =
    (noted.key ≡ record { desk = desk; number = number; key = key })
    × (noted.dropped ≡ first_dropped (keyed_jobs_of desk l.keys))

-- the rows of a job that is the desk's next one
pub record AreRowsOfTaken (desk : ℕ) (l : Ledgers) (name : List ℕ) (key : Option (List ℕ))
    (programs : List ProgramBytes) (credit : ℕ) (buffer : List ℕ) (t : TakenJob) : Type 0 where
  pub at : t.job.desk ≡ desk
  pub numbered : (count : ℕ) → HasTaken desk l count → t.job.number ≡ count + 1
  pub tenant : t.job.tenant ≡ name
  pub credited : t.job.credit ≡ credit
  pub encoded : t.job.programs ≡ list_bytes program_bytes programs
  pub input : t.job.buffer ≡ buffer
  pub keyed : IsRowOfKey desk l t.job.number key t.key

-- the rows of a job that is over, and of its tenant
pub record AreRowsOfEnd (desk : ℕ) (l : Ledgers) (number : ℕ) (outcome : Result Report ℕ)
    (s : SettledJob) : Type 0 where
  pub at : s.outcome.desk ≡ desk
  pub numbered : s.outcome.number ≡ number
  pub job : StoredJob
  pub was : job_record l desk number ≡ Some job
  pub came : CameTo (settled job.credit outcome) s.outcome.outcome
  pub row : StoredTenant
  pub had : tenant_named l desk job.tenant ≡ Some row
  pub tenant : s.tenant
      ≡ record row { spent = row.spent + spent_by_job (settled job.credit outcome) }
  pub own : HasItsNumber l.tenants s.tenant

abbrev pub is_number_in : ℕ → List ℕ → Bool
is_number_in number = list_any (λ n. n == number)

-- the job of this number is over, and none of those behind the last that are forgotten
pub record IsOverAhead (desk : ℕ) (l : Ledgers) (ahead number : ℕ) : Type 0 where
  pub first : 1 ≤ number
  pub small : number < most_numbers
  pub within : number ≤ ahead
  pub outcome : StoredOutcome
  pub is : outcome_record l desk number ≡ Some outcome

-- the jobs that are forgotten: all up to a number that are over
pub record AreRowsOfForgotten (desk : ℕ) (l : Ledgers) (ahead : ℕ) (f : ForgottenJobs) :
    Type 0 where
  pub at : f.desk.desk ≡ desk
  pub taken : (count : ℕ) → HasTaken desk l count → f.desk.taken ≡ count
  pub all : (number : ℕ) (o : StoredOutcome) → 1 ≤ number → number < most_numbers
      → number ≤ ahead → outcome_record l desk number ≡ Some o
      → is_number_in number f.numbers.items ≡ true
  pub over : (number : ℕ) → is_number_in number f.numbers.items ≡ true
      → IsOverAhead desk l ahead number

-- the rows that a change of a desk changes in these records
abbrev pub AreRowsOf : Ledgers → DeskChange → StoredChange → Type 0
AreRowsOf l (Granted desk tenant amount) rows =
    (t : StoredTenant) × (rows ≡ stored.Granted t)
    × IsRowOfGrant desk l (string_bytes tenant) amount t
AreRowsOf l (Taken desk tenant key programs credit buffer) rows =
    (t : TakenJob) × (rows ≡ stored.Taken t)
    × AreRowsOfTaken desk l (string_bytes tenant) (option_map string_bytes key) programs.items
    credit buffer.items t
AreRowsOf l (Settled id outcome) rows =
    (s : SettledJob) × (rows ≡ stored.Settled s) × AreRowsOfEnd id.desk l id.number outcome s
AreRowsOf l (Forgotten desk ahead) rows =
    (f : ForgottenJobs) × (rows ≡ stored.Forgotten f) × AreRowsOfForgotten desk l ahead f

-- the rows of changes, each in the records that those before made
pub data AreRowsOfAll (l : Ledgers) : List DeskChange → List StoredChange → Type 0 where
  no_rows : AreRowsOfAll l [] []
  more_rows : (changes : List DeskChange) (all : List StoredChange) (c : DeskChange) (rows : StoredChange)
      → AreRowsOfAll l changes all → AreRowsOf (all_made l all) c rows → IsNarrowChange rows
      → AreRowsOfAll l (changes ++ c ∷ []) (all ++ rows ∷ [])
