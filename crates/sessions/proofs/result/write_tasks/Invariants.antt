use Rattle.std.proofs.Common.{◌≡◌, ◌++◌, false, take}
use Rattle.sessions.specs.ResultTexts.{behind_tasks, task_texts}
use Rattle.sessions.proofs.result.write_tasks.Given as goal

abbrev pub invariant-loop-task : goal.invariant-loop-task
invariant-loop-task l = record {
  written : l.out.items ≡ l.fn.out.items ++ task_texts false (take l.task-index l.tasks);
  later : l.is_later ≡ behind_tasks false (take l.task-index l.tasks);
}
