use Rattle.std.proofs.Common.{length}
use Rattle.bpfjobs_cli.proofs.ResultLemmas.{AreLeftFrom}
use Rattle.bpfjobs_cli.proofs.result_check.first_difference.Given as goal

abbrev pub invariant-bytes : goal.invariant-bytes
invariant-bytes l = AreLeftFrom l.given l.expected l.left l.right l.at

abbrev pub decreases-bytes : goal.decreases-bytes
decreases-bytes l = length l.left
