use Rattle.std.proofs.Common.{length}
use Rattle.bpfjobs_cli.proofs.EndLemmas.{AreLeft}
use Rattle.bpfjobs_cli.proofs.task_summaries.first_unshared.Given as goal

abbrev pub invariant-ends : goal.invariant-ends
invariant-ends l = AreLeft l.given l.expected l.left l.right

abbrev pub decreases-ends : goal.decreases-ends
decreases-ends l = length l.left
