-- Beside a reply to a submit: why its job doesn't run.
use Rattle.std.specs.Prelude.{◌≡◌, ℕ, List, [], ◌∷◌, ◌++◌, length, Option, Some, None, Result, Ok, Err, IfOk}
use Rattle.refusal.specs.declared.NoMemory.{NoMemory}
use Rattle.accounts.specs.declared.jobs.JobEntry.{JobEntry}
use Rattle.accounts.specs.declared.jobs.JobStanding.{JobStanding}
use Rattle.accounts.specs.declared.jobs.JobStanding.TheVariants.{Open, Failed}
use Rattle.accounts.specs.Ledgers.{Ledger}
use Rattle.sessions.specs.Grammar.{Asked, submit}
use Rattle.sessions.specs.Replies.{frame_or_refusal, refusal_data, submit_data}
use Rattle.streams.specs.Answering.{Settles}
use Rattle.streams.specs.declared.submit_refusal.SubmitRefusal.{SubmitRefusal}
use Rattle.streams.specs.declared.submit_refusal.SubmitRefusal.TheVariants.{NotTaken, NotStarted}

-- the desk's last job stands so
pub record LastStands (desk : Ledger) (standing : JobStanding) : Type 0 where
  pub front : List JobEntry
  pub entry : JobEntry
  pub last : desk.jobs ≡ front ++ entry ∷ []
  pub stands : entry.standing ≡ standing

-- a job was taken under this number: it is the last one, and open
abbrev pub IsJustTaken : Ledger → ℕ → Type 0
IsJustTaken desk number = (number ≡ length desk.jobs) × LastStands desk Open

-- why a job that was taken under this number doesn't run, by what its start came to
abbrev pub start_refused : ℕ → Result (Unit {0}) ℕ → Option SubmitRefusal
start_refused number (Ok started) = None
start_refused number (Err code) = Some (NotStarted number code)

-- This is told of the start of the job of this number, whether the reply finds memory or not, and
-- the desk is so after it.
pub record TellsStart (desk : Ledger) (number : ℕ) (refusal : Option SubmitRefusal)
    (after : Ledger) : Type 0 where
  pub outcome : Result (Unit {0}) ℕ
  pub tells : refusal ≡ start_refused number outcome
  pub settles : Settles desk number outcome after

-- Nothing is told where the desk's last job, whose number is replied, is open. A start was refused
-- where that job has failed with this code. Otherwise no job was taken, and the reply says so.
abbrev pub SaysRefusal : Ledger → Option SubmitRefusal → List ℕ → Type 0
SaysRefusal desk None reply =
    LastStands desk Open × (reply ≡ frame_or_refusal (submit_data (length desk.jobs)))
SaysRefusal desk (Some (NotStarted number code)) reply =
    LastStands desk (Failed code) × (number ≡ length desk.jobs)
    × (reply ≡ frame_or_refusal (submit_data number))
SaysRefusal desk (Some (NotTaken code)) reply =
    (program slot : Option ℕ) × (reply ≡ frame_or_refusal (refusal_data code program slot))

-- what is told beside the reply to what a frame asks, by the desk after it: nothing, but for a submit
abbrev pub TellsRefusal : Ledger → Result Asked ℕ → Option SubmitRefusal
    → Result (List ℕ) NoMemory → Type 0
TellsRefusal desk (Ok (submit name order)) refusal result =
    IfOk result (λ frame. SaysRefusal desk refusal frame)
TellsRefusal desk other refusal result = refusal ≡ None
