-- A register as contracts see it.
use Rattle.std.specs.Prelude.{List}
use Rattle.task_register.specs.declared.seats.RegisterState.{RegisterState}
use Rattle.task_register.specs.declared.seats.SeatedTask.{SeatedTask}

-- what was started and what is over, and the tasks whose seats wait, the first one first
pub record RegisterModel : Type 0 where
  pub known : RegisterState
  pub waiting : List SeatedTask
