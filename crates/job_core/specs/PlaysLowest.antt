-- A job that is played in one thread: always the live task of lowest number next.
use Rattle.std.specs.Prelude.{◌≡◌, ◌<◌, ℕ, List, map, Bool, Some}
use Rattle.machine_model.specs.Machine.{Program}
use Rattle.machine_model.specs.JobState.{JobState, IsAlive, IsComplete, start, step}
use Rattle.verifier.specs.Checked.{program_of}
use Rattle.credit_book.specs.declared.book.Report.{Report}
use Rattle.job_core.specs.Admitted.{AdmittedJob}
use Rattle.job_core.specs.Answers.{IsReportOf}

-- the live task of lowest number
pub record IsLowest (j : JobState) (n : ℕ) : Type 0 where
  pub alive : IsAlive j n
  pub lowest : (k : ℕ) → k < n → IsAlive j k → ⊥

-- Steps lead from one job to another, each of the live task of lowest number, for some choice of
-- spawns that are refused.
pub data GoesLowest (programs : List Program) (first : JobState) : JobState → Type 0 where
  none_yet : GoesLowest programs first first
  one_more : (j k : JobState) (n : ℕ) (refuses : Bool) → GoesLowest programs first j → IsLowest j n
      → step programs j n refuses ≡ Some k → GoesLowest programs first k

-- They lead from the job's start to its end, of which this is the report.
pub record IsPlayed (order : AdmittedJob) (report : Report) : Type 0 where
  pub last : JobState
  pub steps : GoesLowest (map program_of order.programs) (start order.credit order.buffer) last
  pub complete : IsComplete last
  pub reported : IsReportOf report last
