-- The desks of a server, as its handler has them.
use Rattle.std.specs.Prelude.{◌≡◌, ◌⊎◌, ◌≤◌, ℕ, Bool, List, is_ok, length, slice_get, slice_set, Some, Result}
use Rattle.credit_book.specs.declared.book.Report.{Report}
use Rattle.job_core.specs.Admitted.{AdmittedJob}
use Rattle.server_state.specs.declared.job_id.JobId.{JobId}
use Rattle.server_state.specs.Answering.{BeginsWaiting, NotesEnd}
use Rattle.server_state.specs.States.{DeskState, JobsSteps, ServerState}
use Rattle.server_handler.specs.declared.server.WaitingJob.{WaitingJob}

-- the desk of a job notes its end, or passes over that of a job that is not open; an end of no desk
-- here is passed over
pub record NotesAtDesk (old : List DeskState) (id : JobId) (outcome : Result Report ℕ)
    (new : List DeskState) : Type 0 where
  pub before : DeskState
  pub was : slice_get old id.desk ≡ Some before
  pub after : DeskState
  pub notes : NotesEnd id.number outcome before after
  pub is : new ≡ slice_set old id.desk after

abbrev pub NotesAmong : List DeskState → JobId → Result Report ℕ → List DeskState → Type 0
NotesAmong old id outcome new =
    NotesAtDesk old id outcome new ⊎ ((length old ≤ id.desk) × (new ≡ old))

-- a job that waits, with its name
abbrev pub waiting_job : WaitingJob → JobId × AdmittedJob
waiting_job w = (w.id, w.job)

-- the first job that waits was started, or it was refused and waits on
abbrev pub BeginsOr : {R : Type 0} → Bool → JobsSteps R → ServerState R → ServerState R → Type 0
BeginsOr started m s t = (b : BeginsWaiting m s t) × (is_ok b.started ≡ started)
