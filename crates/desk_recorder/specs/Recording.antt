-- The records of what changes a desk.
use Rattle.std.specs.Prelude.{◌≡◌, ◌⊎◌, ℕ, List, [], ◌∷◌, ◌++◌, length, nat_lt, if◌then◌else◌, MatchResult, Option, Some, None, Result, true, false, Vec}
use Rattle.std.specs.declared.alloc.Global.{Global}
use Rattle.accounts.specs.Ledgers.{Ledger, Finishes, Forgets, GrantsMore, Takes}
use Rattle.credit_book.specs.declared.book.Report.{Report}
use Rattle.job_core.specs.Admitted.{AdmittedJob}
use Rattle.job_core.specs.Admission.{IsAdmittedFrom, RefusesJob}
use Rattle.job_core.specs.declared.admission.AdmitFault.{AdmitFault}
use Rattle.job_core.specs.declared.admission.ProgramBytes.{ProgramBytes}
use Rattle.journal.specs.Records.{record_of, journal_of, FitsRecord, AllFitRecords}
use Rattle.recovery.specs.Histories.{ReplaysChanges}
use Rattle.desk_journal.specs.declared.journaled_desk.OpenJob.{OpenJob}
use Rattle.sessions.specs.JobKeys.{noted}
use Rattle.sessions.specs.declared.job_key.KeyedJob.{KeyedJob}
use Rattle.keyed_desk.specs.KeyedChanges.{by_key_bytes}
use Rattle.keyed_desk.specs.KeyedSteps.{KeyedState, MakesKeyed}
use Rattle.streams.specs.Answering.{IsOpenJob}
use Rattle.desk_recorder.specs.declared.recorder.ChangeRecorder.{ChangeRecorder}

-- one of the jobs has the number
abbrev pub HasJobNumber : ℕ → List OpenJob → Type 0
HasJobNumber number [] = ⊥
HasJobNumber number (job ∷ jobs) = (job.number ≡ number) ⊎ HasJobNumber number jobs

-- every open job of the desk is among these
abbrev pub HoldsOpen : List OpenJob → Ledger → Type 0
HoldsOpen held desk = (number : ℕ) → IsOpenJob desk number → HasJobNumber number held

-- a desk with the open jobs that are held, and with its keyed jobs
abbrev pub keyed_state : Ledger → List OpenJob → List KeyedJob → KeyedState
keyed_state desk held keys = record { desk = record { desk = desk; held = held }; keys = keys }

-- the keys that are remembered behind these keyed jobs, in order
abbrev pub noted_each : List KeyedJob → List KeyedJob → List KeyedJob
noted_each keys [] = keys
noted_each keys (k ∷ more) = noted_each (noted keys k.job k.key) more

-- The changes with these payloads lead from a desk to another, whatever list holds the first one's
-- open jobs, and to a list that holds the other one's; and to the keys that were remembered, with
-- these behind them.
abbrev pub ChangesLead : Ledger → List (List ℕ) → List KeyedJob → Ledger → Type 0
ChangesLead old payloads keyed new = (held : List OpenJob) (keys : List KeyedJob)
    → HoldsOpen held old → (after : List OpenJob) × HoldsOpen after new
    × ReplaysChanges MakesKeyed (keyed_state old held keys) payloads
    (keyed_state new after (noted_each keys keyed))

-- these bytes are the record of what changed a desk, with these keyed jobs
pub record IsChangeRecord (bytes : List ℕ) (old new : Ledger) (keyed : List KeyedJob) :
    Type 0 where
  pub payload : List ℕ
  pub are : bytes ≡ record_of payload
  pub fits : FitsRecord payload
  pub leads : ChangesLead old (payload ∷ []) keyed new

-- the bytes are the record of this payload
abbrev pub IsRecordWith : List ℕ → List ℕ → Type 0
IsRecordWith payload bytes = FitsRecord payload × (bytes ≡ record_of payload)

-- the payload of the record of a change of a desk, by a key or without one
abbrev pub payload_by : Option (List ℕ) → List ℕ → List ℕ
payload_by None change = change
payload_by (Some key) change = by_key_bytes key change

-- the keyed job of a desk's last one, if it came by a key
abbrev pub last_keyed : Option (List ℕ) → Ledger → List KeyedJob
last_keyed None desk = []
last_keyed (Some key) desk = record { job = length desk.jobs; key = key } ∷ []

-- the same where a desk took a job, and else none
abbrev pub keyed_taken : Option (List ℕ) → Ledger → Ledger → List KeyedJob
keyed_taken key old new =
    if nat_lt (length old.jobs) (length new.jobs) then last_keyed key new else []

-- the bytes are the record of such a grant, of a job that was taken so, of such an end, and of what
-- was forgotten, at every desk
abbrev pub IsGrantRecord : List ℕ → List ℕ → ℕ → Type 0
IsGrantRecord bytes name amount =
    (old new : Ledger) → GrantsMore old name amount new → IsChangeRecord bytes old new []

abbrev pub IsSubmitRecord : List ℕ → Option (List ℕ) → List ℕ → List ProgramBytes → ℕ → List ℕ
    → Type 0
IsSubmitRecord bytes key name programs credit buffer =
    (old new : Ledger) (job : AdmittedJob) → Takes old name credit new
    → IsAdmittedFrom programs credit buffer job
    → IsChangeRecord bytes old new (last_keyed key new)

abbrev pub IsEndRecord : List ℕ → ℕ → Result Report ℕ → Type 0
IsEndRecord bytes number outcome =
    (old new : Ledger) → Finishes old number outcome new → IsChangeRecord bytes old new []

abbrev pub IsForgettingRecord : List ℕ → ℕ → Type 0
IsForgettingRecord bytes ahead =
    (old new : Ledger) → Forgets old ahead new → IsChangeRecord bytes old new []

-- A queue has taken the records of some more changes, in order, and these lead from a desk to
-- another, with these keyed jobs.
pub record RecordsMore {Q : Type 0} (taken : Q → List ℕ) (before after : Q) (old new : Ledger)
    (keyed : List KeyedJob) : Type 0 where
  pub payloads : List (List ℕ)
  pub fit : AllFitRecords payloads
  pub more : taken after ≡ taken before ++ journal_of payloads
  pub leads : ChangesLead old payloads keyed new

-- What a recorder took while a desk changed, with these keyed jobs. Where it notes no change, the
-- desk is the same. Unless it has stopped, it has the records of all changes; it stops for ever, and
-- only once its queue is told so.
pub record IsRecorded {Q : Type 0} (taken : Q → List ℕ) (failed : Q → Type 0)
    (before after : ChangeRecorder Q) (old new : Ledger) (keyed : List KeyedJob) : Type 0 where
  pub going : after.is_stopped ≡ false → before.is_stopped ≡ false
  pub unchanged : after.has_changed ≡ false → (before.has_changed ≡ false) × (new ≡ old)
  pub told : (before.is_stopped ≡ true → failed before.queue) → after.is_stopped ≡ true
      → failed after.queue
  pub records : after.is_stopped ≡ false
      → RecordsMore taken before.queue after.queue old new keyed

-- a job that is taken with its record, or why it isn't admitted
abbrev pub IsRecordedAdmission : Option (List ℕ) → List ℕ → List ProgramBytes → ℕ → List ℕ
    → Result (AdmittedJob × Vec ℕ Global) AdmitFault → Type 0
IsRecordedAdmission key name programs credit buffer admission =
    MatchResult admission
    (λ made. IsAdmittedFrom programs credit buffer made.0
    × IsSubmitRecord made.1.items key name programs credit buffer)
    (λ fault. RefusesJob programs credit buffer fault)
