-- A job that a pool was given, and what it comes to.
use Rattle.std.specs.Prelude.{◌≡◌, ℕ, Result, Ok, Err, length, map}
use Rattle.credit_book.specs.declared.book.Report.{Report}
use Rattle.job_answer.specs.OneAnswer.{IsJobAnswer}
use Rattle.job_core.specs.Admitted.{AdmittedJob}
use Rattle.server_state.specs.declared.job_id.JobId.{JobId}
use Rattle.verifier.specs.Checked.{program_of}
use Rattle.workers.specs.Final.{IsFinal}

-- the ticket of its start, its name, and the job
pub record PooledJob : Type 0 where
  pub ticket : ℕ
  pub id : JobId
  pub job : AdmittedJob

-- the report of a whole run of this job under this number: the one answer of this job
pub record IsJobRun (number : ℕ) (job : AdmittedJob) (report : Report) : Type 0 where
  pub final : IsFinal number job.credit (length job.buffer) report
  pub answer : IsJobAnswer (map program_of job.programs) job.credit job.buffer report

-- such a report, or 99: there was no memory for one
abbrev pub IsJobEnd : JobId → AdmittedJob → Result Report ℕ → Type 0
IsJobEnd id job (Ok report) = IsJobRun id.number job report
IsJobEnd id job (Err code) = code ≡ 99
