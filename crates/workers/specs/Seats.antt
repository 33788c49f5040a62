-- The seat that a worker holds of the task that it runs.
use Rattle.std.specs.Prelude.{◌≡◌, [], Bool, Option, Some, None}
use Rattle.helpers.specs.declared.spawner.SpawnRecord.{SpawnRecord}
use Rattle.credit_book.specs.declared.task.Outcome.{Outcome}
use Rattle.task_register.specs.declared.seats.SeatedTask.{SeatedTask}
use Rattle.task_register.specs.declared.seats.TaskResult.{TaskResult}
use Rattle.task_register.specs.Handing.{ended_with}
use Rattle.task_register.specs.Rule.{no_start, with_one_more}
use Rattle.job_answer.specs.Children.{start_of}
use Rattle.job_answer.specs.OneAnswer.{IsPaidFor}

-- no task's number is so large
abbrev pub nobodys : SeatedTask
nobodys = record { number = 4294967296; birth = no_start; children = [] }

-- the task of the seat, or nobody's
abbrev pub task_in : Option SeatedTask → SeatedTask
task_in None = nobodys
task_in (Some task) = task

-- the seat knows one child more, the one of this record
pub record HasOneMore (old : Option SeatedTask) (child : SpawnRecord) (new : Option SeatedTask) :
    Type 0 where
  pub task : SeatedTask
  pub there : old ≡ Some task
  pub after : new ≡ Some (with_one_more task (start_of task.number child))

-- the task ran as is to hold of each, and was paid for
abbrev pub RanAndPaid : (TaskResult → Type 0) → TaskResult → Type 0
RanAndPaid runs o = runs o × IsPaidFor o

-- the seat is that of the outcome's task, whole or not, of which this holds
pub record IsTaskOver (holds : TaskResult → Type 0) (seat : Option SeatedTask) (outcome : Outcome)
    (whole : Bool) :
    Type 0 where
  pub task : SeatedTask
  pub there : seat ≡ Some task
  pub number : task.number ≡ outcome.number
  pub runs : holds (ended_with task outcome whole)
