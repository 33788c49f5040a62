-- Whether a result is the one answer of its job.
use Rattle.std.specs.Prelude.{◌≡◌, ◌≢◌, ◌⊎◌, ◌≤◌, ◌+◌, ℕ, List, map, take, length, slice_get, All, Contains, true, false, Option, Some, None, Ok, Err}
use Rattle.std.specs.List.Sorted.{IsPermutation}
use Rattle.task_trees.specs.Answer.{joined_bytes, spent_in}
use Rattle.task_trees.specs.Eval.{Finished}
use Rattle.run_trace.specs.Spelled.{programs_of}
use Rattle.run_trace.specs.Trees.{IsTree, NoTree}
use Rattle.sessions.specs.ResultObjects.{ResultContents, ResultAnswer, contents_of}
use Rattle.sessions.specs.declared.fault.SessionFault.{SessionFault}
use Rattle.sessions.specs.declared.result_reader.ResultObject.{ResultObject}
use Rattle.sessions.specs.declared.result_reader.ResultTask.{ResultTask}
use Rattle.bpfjobs_cli.specs.Shown.{IsRefusedJob, IsRequestedJob}
use Rattle.bpfjobs_cli.specs.TaskSummaries.{IsUnshared, result_summary, summary_of}
use Rattle.bpfjobs_cli.specs.declared.requested_job.RequestedJob.{RequestedJob}
use Rattle.bpfjobs_cli.specs.declared.result_check.ResultDifference.{ResultDifference}
use Rattle.bpfjobs_cli.specs.declared.result_check.ResultDifference.TheVariants.{NotRun, Task, Spent, Returned, Buffer}
use Rattle.bpfjobs_cli.specs.declared.result_check.ResultVerdict.{ResultVerdict}
use Rattle.bpfjobs_cli.specs.declared.result_check.ResultVerdict.TheVariants.{Answer, Differs, NoJob, NoResult, NoAnswer}
use Rattle.bpfjobs_cli.specs.declared.task_summaries.TaskSummary.{TaskSummary}
use Rattle.bpfjobs_cli.specs.declared.task_summaries.UnsharedTask.{UnsharedTask}

abbrev pub AllResultsRan : List ResultTask → Type 0
AllResultsRan tasks = All (λ t. t.ran ≡ true) tasks

-- the task of this number didn't run
pub record HasNotRun (tasks : List ResultTask) (number : ℕ) : Type 0 where
  pub task : ResultTask
  pub is_one : Contains tasks task
  pub named : task.number ≡ number
  pub not_run : task.ran ≡ false

-- the ends of the tasks that a result and an answer have
abbrev pub given_ends : List ResultTask → List TaskSummary
given_ends tasks = map result_summary tasks

abbrev pub expected_ends : List Finished → List TaskSummary
expected_ends answer = map (λ f. summary_of f.ending) answer

-- The result is this answer of a job with this credit and a buffer of this size. All its tasks ran,
-- their ends are those of the answer, each once, in some order, and so are the credit and the
-- buffer.
pub record IsAnswerOf (credit size : ℕ) (answer : List Finished) (given : ResultContents) : Type 0 where
  pub ran : AllResultsRan given.tasks
  pub tasks : IsPermutation (given_ends given.tasks) (expected_ends answer)
  pub spent : given.spent ≡ spent_in answer
  pub returned : given.returned + given.spent ≡ credit
  pub buffer : given.buffer ≡ joined_bytes size answer

-- the lists are the same ahead of this place, and differ there
abbrev pub DiffersFirstAt : ℕ → List ℕ → List ℕ → Type 0
DiffersFirstAt at xs ys = (take at xs ≡ take at ys) × (slice_get xs at ≢ slice_get ys at)

abbrev pub DiffersBy : ℕ → ℕ → List Finished → ResultContents → ResultDifference → Type 0
DiffersBy credit size answer given (NotRun number) = HasNotRun given.tasks number
DiffersBy credit size answer given (Task unshared) =
    IsUnshared (given_ends given.tasks) (expected_ends answer) unshared
DiffersBy credit size answer given (Spent told expected) =
    (told ≡ given.spent) × (given.spent ≢ spent_in answer)
DiffersBy credit size answer given (Returned told whole) =
    (told ≡ given.returned) × (whole ≡ credit) × (given.returned + given.spent ≢ credit)
DiffersBy credit size answer given (Buffer at) =
    DiffersFirstAt at given.buffer (joined_bytes size answer)

-- the tasks of a result have the ends of the answer's, or one of the two has an end more often
abbrev pub ComparesTasks : List ResultTask → List Finished → Option UnsharedTask → Type 0
ComparesTasks given answer None = IsPermutation (given_ends given) (expected_ends answer)
ComparesTasks given answer (Some unshared) =
    IsUnshared (given_ends given) (expected_ends answer) unshared

-- the sum in 64 bits, or their largest number where it is more
abbrev pub IsSaturated : ℕ → ℕ → Type 0
IsSaturated sum told =
    (told ≡ sum) ⊎ ((told ≡ 18446744073709551615) × (18446744073709551615 ≤ sum))

-- The text says a result, and the other a job that is admitted, which comes to these tasks.
pub record IsCompared (job_text result_text : List ℕ) (compares : ℕ → ℕ → List Finished → ResultContents → Type 0) :
    Type 0 where
  pub job : RequestedJob
  pub is_job : IsRequestedJob false job_text job
  pub given : ResultObject
  pub is_result : ResultAnswer (Ok given) result_text
  pub answer : List Finished
  pub comes : IsTree (programs_of job.programs) job.credit job.buffer.items answer
  pub compared : compares job.credit (length job.buffer.items) answer (contents_of given)

-- the job comes to nothing, but for tasks that spend more than its credit
pub record HasNoAnswer (job_text : List ℕ) : Type 0 where
  pub job : RequestedJob
  pub is_job : IsRequestedJob false job_text job
  pub none : NoTree (programs_of job.programs) job.credit job.buffer.items

abbrev pub IsResultVerdict : List ℕ → List ℕ → ResultVerdict → Type 0
IsResultVerdict job_text result_text Answer = IsCompared job_text result_text IsAnswerOf
IsResultVerdict job_text result_text (Differs difference) =
    IsCompared job_text result_text
    (λ credit size answer given. DiffersBy credit size answer given difference)
IsResultVerdict job_text result_text NoJob = IsRefusedJob false job_text
IsResultVerdict job_text result_text (NoResult fault) = ResultAnswer (Err fault) result_text
IsResultVerdict job_text result_text NoAnswer = HasNoAnswer job_text
