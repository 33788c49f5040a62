-- What is printed of a job.
use Rattle.std.specs.Prelude.{◌≡◌, ◌↔◌, ℕ, List, Bool, true, IsTrue, Option, Some, None, Ok, Err}
use Rattle.machine_model.specs.JobState.{JobState, IsComplete}
use Rattle.sessions.specs.Answers.{ObjectAnswer}
use Rattle.sessions.specs.Faults.{code_of_session_fault}
use Rattle.sessions.specs.Replies.{play_data}
use Rattle.sessions.specs.declared.request.JobObject.{JobObject}
use Rattle.job_core.specs.declared.totals.Totals.{Totals}
use Rattle.job_core.specs.Admission.{IsAdmittedFrom, RefusesJob, code_of_admit_fault, program_of_admit_fault, slot_of_admit_fault}
use Rattle.job_core.specs.Admitted.{AdmittedJob}
use Rattle.job_core.specs.Answers.{AreTotals}
use Rattle.job_core.specs.Representation.{WorldState, PlaysJob}
use Rattle.bpfjobs_cli.specs.declared.declined.JobDeclined.{JobDeclined}
use Rattle.bpfjobs_cli.specs.declared.declined.JobDeclined.TheVariants as declined
use Rattle.bpfjobs_cli.specs.Printed.{Prints, refusal_reply, reply_line}

-- the input says a job, with a schedule where one is wanted, and it is admitted
pub record IsOrdered (wants : Bool) (input : List ℕ) (order : AdmittedJob) (schedule : List ℕ) :
    Type 0 where
  pub object : JobObject
  pub read : ObjectAnswer wants (Ok object) input
  pub admitted : IsAdmittedFrom object.programs.items object.credit object.buffer.items order
  pub same_schedule : schedule ≡ object.schedule.items

-- the input says no job, or one that isn't admitted
abbrev pub IsDeclined : Bool → List ℕ → JobDeclined → Type 0
IsDeclined wants input (declined.Object fault) = ObjectAnswer wants (Err fault) input
IsDeclined wants input (declined.Job fault) =
    (object : JobObject) × ObjectAnswer wants (Ok object) input
    × RefusesJob object.programs.items object.credit object.buffer.items fault

abbrev pub declined_code : JobDeclined → ℕ
declined_code (declined.Object fault) = code_of_session_fault fault
declined_code (declined.Job fault) = code_of_admit_fault fault

abbrev pub declined_line : JobDeclined → List ℕ
declined_line (declined.Object fault) = refusal_reply (code_of_session_fault fault) None None
declined_line (declined.Job fault) =
    refusal_reply (code_of_admit_fault fault) (program_of_admit_fault fault) (slot_of_admit_fault fault)

-- how far a job is
pub record PrintsProgress (j : JobState) (text : List ℕ) (status : ℕ) (code : Option ℕ) : Type 0 where
  pub complete : Bool
  pub is_complete : IsTrue complete ↔ IsComplete j
  pub totals : Totals
  pub are_totals : AreTotals totals j
  pub line : Prints text status code
      (reply_line
      (play_data j.buffer complete totals.held totals.returned totals.spent totals.used)) 0 None

-- A job's schedule leads to what is told, which is the job's one answer where no spawn was refused
-- and no task is alive; or there is no job, or no memory for it.
pub data PrintsPlay (input text : List ℕ) (status : ℕ) (code : Option ℕ) : Type 0 where
  played : (order : AdmittedJob) (schedule : List ℕ) (kept : WorldState)
      → IsOrdered true input order schedule
      → (plays : PlaysJob order schedule kept)
      → PrintsProgress plays.plays.last text status code → PrintsPlay input text status code
  no_memory : (order : AdmittedJob) (schedule : List ℕ) → IsOrdered true input order schedule
      → Prints text status code (refusal_reply 99 None None) 1 (Some 99) → PrintsPlay input text status code
  no_job : (why : JobDeclined) → IsDeclined true input why → Prints text status code (declined_line why) 1
      (Some (declined_code why))
      → PrintsPlay input text status code
