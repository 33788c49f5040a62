use Rattle.std.proofs.Common.{◌≡◌, map, take}
use Rattle.bpfjobs_cli.specs.TaskSummaries.{result_summary}
use Rattle.bpfjobs_cli.proofs.task_summaries.result_summaries.Given as goal

abbrev pub invariant-loop-task : goal.invariant-loop-task
invariant-loop-task l = l.found.items ≡ map result_summary (take l.task-index l.tasks)
