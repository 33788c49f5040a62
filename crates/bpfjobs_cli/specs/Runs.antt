-- What is printed of a job that threads run.
use Rattle.std.specs.Prelude.{◌≡◌, ℕ, List, length, map, false, Option, Some, None}
use Rattle.credit_book.specs.declared.book.Report.{Report}
use Rattle.job_answer.specs.OneAnswer.{IsJobAnswer}
use Rattle.job_core.specs.Admitted.{AdmittedJob}
use Rattle.verifier.specs.Checked.{program_of}
use Rattle.sessions.specs.Replies.{result_data}
use Rattle.workers.specs.Final.{IsFinal}
use Rattle.bpfjobs_cli.specs.declared.declined.JobDeclined.{JobDeclined}
use Rattle.bpfjobs_cli.specs.Jobs.{IsDeclined, IsOrdered, declined_code, declined_line}
use Rattle.bpfjobs_cli.specs.Printed.{Prints, refusal_reply, reply_line}

-- the report of the job's complete history, which is the job's one answer; or there was no memory
-- for it; or there is no job
pub data PrintsRun (input text : List ℕ) (status : ℕ) (code : Option ℕ) : Type 0 where
  ran : (order : AdmittedJob) (schedule : List ℕ) (report : Report)
      → IsOrdered false input order schedule → IsFinal 0 order.credit (length order.buffer) report
      → IsJobAnswer (map program_of order.programs) order.credit order.buffer report
      → Prints text status code
      (reply_line (result_data report.buffer.items report.returned report.spent report.tasks.items))
      0 None → PrintsRun input text status code
  no_memory : (order : AdmittedJob) (schedule : List ℕ) → IsOrdered false input order schedule
      → Prints text status code (refusal_reply 99 None None) 1 (Some 99) → PrintsRun input text status code
  no_job : (why : JobDeclined) → IsDeclined false input why → Prints text status code (declined_line why) 1
      (Some (declined_code why))
      → PrintsRun input text status code

-- where a report is printed, this holds of the credit of the job that the input says
abbrev pub IsWatched : (ℕ → Type 0) → List ℕ → Option ℕ → Type 0
IsWatched opens input code = code ≡ None
    → (order : AdmittedJob) × (schedule : List ℕ) × IsOrdered false input order schedule × opens order.credit
