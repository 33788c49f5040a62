-- What a job comes to.
use Rattle.std.specs.Prelude.{◌≡◌, ◌≢◌, ℕ, Result, Ok, Err, All, length, map}
use Rattle.credit_book.specs.declared.book.Report.{Report}
use Rattle.job_answer.specs.OneAnswer.{AllRan, HasOneAnswer, IsJobAnswer}
use Rattle.job_core.specs.Admitted.{AdmittedJob}
use Rattle.verifier.specs.Checked.{program_of}
use Rattle.workers.specs.declared.fault.PoolFault.{PoolFault}
use Rattle.workers.specs.declared.fault.PoolFault.TheVariants.{BookRefused}
use Rattle.workers.specs.PoolFaultCodes.{code_of_pool_fault}
use Rattle.workers.specs.Final.{IsFinal}
use Rattle.workers.specs.EndedAlone.{EndedAlone}

-- the report of a whole run of this job under this number: the one answer of this job
pub record IsRun (number : ℕ) (job : AdmittedJob) (report : Report) : Type 0 where
  pub final : IsFinal number job.credit (length job.buffer) report
  pub answer : IsJobAnswer (map program_of job.programs) job.credit job.buffer report

-- such a report, or 99: there was no memory for one
abbrev pub IsEndOf : ℕ → AdmittedJob → Result Report ℕ → Type 0
IsEndOf number job (Ok report) = IsRun number job report
IsEndOf number job (Err code) = code ≡ 99

-- ---- of a job in a thread of its own, which a refused spawn doesn't end

-- the report of a run of this job under this number, each of whose tasks gives what it gives by
-- itself; where each ran and none was refused a spawn, it is the one answer of this job
pub record IsPoolReport (number : ℕ) (job : AdmittedJob) (report : Report) : Type 0 where
  pub final : IsFinal number job.credit (length job.buffer) report
  pub alone : All (EndedAlone job.programs) report.tasks.items
  pub answer : AllRan report → HasOneAnswer (map program_of job.programs) job.credit job.buffer report

-- such a report, or the number of a pool's refusal, which isn't 82
abbrev pub IsReportedEnd : ℕ → AdmittedJob → Result Report ℕ → Type 0
IsReportedEnd number job (Ok report) = IsPoolReport number job report
IsReportedEnd number job (Err code) =
    (fault : PoolFault) × (fault ≢ BookRefused) × (code ≡ code_of_pool_fault fault)
