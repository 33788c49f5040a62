-- The open jobs of a recovered desk are started again.
use Rattle.std.specs.Prelude.{◌≡◌, ℕ, List, [], ◌∷◌, ◌++◌, Result, Ok, Err}
use Rattle.accounts.specs.Ledgers.{Ledger}
use Rattle.job_core.specs.Admitted.{AdmittedJob}
use Rattle.desk_journal.specs.declared.journaled_desk.OpenJob.{OpenJob}
use Rattle.streams.specs.Passing.{Notes}

-- a refused start ends the job by its number, if the desk has it open
abbrev pub NotesStart : Ledger → ℕ → Result (Unit {0}) ℕ → Ledger → Type 0
NotesStart old number (Ok started) new = new ≡ old
NotesStart old number (Err code) new = Notes old number (Err code) new

-- each job is started once by the runner, in this order
pub data StartsEach {R : Type 0} (starts : R → ℕ → AdmittedJob → Result (Unit {0}) ℕ → R → Type 0)
    (desk : Ledger) (runner : R) : List OpenJob → Ledger → R → Type 0 where
  none_yet : StartsEach starts desk runner [] desk runner
  one_more : (jobs : List OpenJob) (d : Ledger) (r : R) (job : OpenJob)
      (outcome : Result (Unit {0}) ℕ) (s : R) (e : Ledger) → StartsEach starts desk runner jobs d r
      → starts r job.number job.job outcome s → NotesStart d job.number outcome e
      → StartsEach starts desk runner (jobs ++ job ∷ []) e s

-- The first so many jobs were started, and the next one was refused by this number. None behind it was
-- started.
pub record RefusesStart {R : Type 0}
    (starts : R → ℕ → AdmittedJob → Result (Unit {0}) ℕ → R → Type 0) (desk : Ledger) (runner : R)
    (jobs : List OpenJob) (code : ℕ) (left : R) : Type 0 where
  pub before : List OpenJob
  pub job : OpenJob
  pub after : List OpenJob
  pub is : jobs ≡ before ++ job ∷ after
  pub middle : R
  pub started : StartsEach starts desk runner before desk middle
  pub refused : starts middle job.number job.job (Err code) left
