use Rattle.std.proofs.Common.{◌≡◌, map, take}
use Rattle.telgovan_c.specs.Finishing.{task_end_of}
use Rattle.telgovan_c.proofs.finishing.ends_of.Given as goal

abbrev pub invariant-loop-task : goal.invariant-loop-task
invariant-loop-task l = l.ends.items ≡ map task_end_of (take l.task-index l.tasks)
