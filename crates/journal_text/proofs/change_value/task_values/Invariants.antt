use Rattle.std.proofs.Common.{◌≡◌, map, take}
use Rattle.serde_json.specs.View.{view}
use Rattle.sessions.specs.Replies.{task_data}
use Rattle.journal_text.proofs.change_value.task_values.Given as goal

-- those of the first tasks
abbrev pub invariant-loop-task : goal.invariant-loop-task
invariant-loop-task l = map view l.values.items ≡ map task_data (take l.task-index l.tasks)
