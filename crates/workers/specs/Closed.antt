-- A closed job, and whether each of its tasks was whole.
use Rattle.std.specs.Prelude.{ℕ, Option}
use Rattle.credit_book.specs.declared.book.Report.{Report}
use Rattle.task_register.specs.declared.seats.TaskStart.{TaskStart}
use Rattle.task_register.specs.declared.seats.TaskResult.{TaskResult}
use Rattle.job_answer.specs.Closing.{ClosesJob}
use Rattle.workers.specs.declared.locked_book.SpawnRefused.{SpawnRefused}
use Rattle.workers.specs.Locked.{TellsSpawnRefusal}

-- The job closes to the report. A refusal is told just where one of its tasks wasn't whole.
pub record ClosesWhole (job issued size : ℕ) (root : TaskStart) (runs : TaskResult → Type 0)
    (refused : Option SpawnRefused) (report : Report) : Type 0 where
  pub closed : ClosesJob job issued size root runs report
  pub told : TellsSpawnRefusal refused closed.known.over
