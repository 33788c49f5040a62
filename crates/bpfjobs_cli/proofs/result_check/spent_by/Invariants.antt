use Rattle.std.proofs.Common.{length}
use Rattle.bpfjobs_cli.proofs.ResultLemmas.{IsSumSoFar}
use Rattle.bpfjobs_cli.proofs.result_check.spent_by.Given as goal

abbrev pub invariant-tasks : goal.invariant-tasks
invariant-tasks l = IsSumSoFar l.tasks l.left l.spent

abbrev pub decreases-tasks : goal.decreases-tasks
decreases-tasks l = length l.left
