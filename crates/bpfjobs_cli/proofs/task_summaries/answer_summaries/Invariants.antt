use Rattle.std.proofs.Common.{◌≡◌, map, take}
use Rattle.reference.specs.Evaluating.{finished_of}
use Rattle.bpfjobs_cli.specs.TaskSummaries.{summary_of}
use Rattle.bpfjobs_cli.proofs.task_summaries.answer_summaries.Given as goal

abbrev pub invariant-loop-task : goal.invariant-loop-task
invariant-loop-task l = l.found.items ≡ map (λ f. summary_of f.ending) (map finished_of (take l.task-index l.tasks))
