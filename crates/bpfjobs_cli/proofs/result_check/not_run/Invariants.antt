use Rattle.std.proofs.Common.{take}
use Rattle.bpfjobs_cli.specs.ResultChecks.{AllResultsRan}
use Rattle.bpfjobs_cli.proofs.result_check.not_run.Given as goal

abbrev pub invariant-loop-task : goal.invariant-loop-task
invariant-loop-task l = AllResultsRan (take l.task-index l.tasks)
