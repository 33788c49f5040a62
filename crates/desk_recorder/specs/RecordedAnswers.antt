-- Answers of a handler that records what changes its desk.
use Rattle.std.specs.Prelude.{◌≡◌, ◌⊎◌, ℕ, List, [], Option, Result, true, false}
use Rattle.credit_book.specs.declared.book.Report.{Report}
use Rattle.credit_book.specs.declared.board.Progress.{Progress}
use Rattle.job_core.specs.Admitted.{AdmittedJob}
use Rattle.accounts.specs.declared.keep_limits.KeepLimits.{KeepLimits}
use Rattle.accounts.specs.Ledgers.{Ledger, KeepsWithin}
use Rattle.sessions.specs.Grammar.{Asked}
use Rattle.streams.specs.Answering.{Answers}
use Rattle.desk_recorder.specs.Recording.{RecordsMore}
use Rattle.desk_recorder.specs.declared.recorder.ChangeRecorder.{ChangeRecorder}
use Rattle.desk_recorder.specs.declared.recording_handler.RecordingHandler.{RecordingHandler}

-- A frame is answered as by the desk and the runner, and then the desk forgets, unless nothing has
-- changed. Unless the recorder has stopped, its queue has the records of all changes. It stops for
-- ever, and only once its queue is told so.
pub record AnswersRecorded {R Q : Type 0}
    (starts : R → ℕ → AdmittedJob → Result (Unit {0}) ℕ → R → Type 0)
    (looks : R → ℕ → Progress → R → Type 0)
    (takes : R → Option (ℕ × Result Report ℕ) → R → Type 0) (taken : Q → List ℕ)
    (failed : Q → Type 0) (keep : KeepLimits) (old : Ledger) (runner : R)
    (before : ChangeRecorder Q) (query : Result Asked ℕ) (reply : List ℕ) (new : Ledger) (left : R)
    (after : ChangeRecorder Q) : Type 0 where
  pub mid : Ledger
  pub answered : Answers starts looks takes old runner query reply mid left
  pub kept : KeepsWithin keep mid new ⊎ ((new ≡ mid) × (mid ≡ old))
  pub going : after.is_stopped ≡ false → before.is_stopped ≡ false
  pub told : (before.is_stopped ≡ true → failed before.queue) → after.is_stopped ≡ true
      → failed after.queue
  pub records : after.is_stopped ≡ false
      → RecordsMore taken before.queue after.queue old new []

-- the same of a handler, which keeps as many reports as before
abbrev pub answers_recorded : {R Q : Type 0}
    → (R → ℕ → AdmittedJob → Result (Unit {0}) ℕ → R → Type 0) → (R → ℕ → Progress → R → Type 0)
    → (R → Option (ℕ × Result Report ℕ) → R → Type 0) → (Q → List ℕ) → (Q → Type 0)
    → Ledger × RecordingHandler R Q → Result Asked ℕ → List ℕ → Ledger × RecordingHandler R Q
    → Type 0
answers_recorded starts looks takes taken failed s query reply t =
    AnswersRecorded starts looks takes taken failed s.1.keep s.0 s.1.runner s.1.recorder query reply
    t.0 t.1.runner t.1.recorder × (t.1.keep ≡ s.1.keep)
