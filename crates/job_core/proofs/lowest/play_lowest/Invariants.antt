use Rattle.std.proofs.Common.{◌-◌}
use Rattle.job_core.proofs.InOrder.{AreRun}
use Rattle.job_core.proofs.lowest.play_lowest.Given as goal

abbrev pub invariant-loop-number : goal.invariant-loop-number
invariant-loop-number l = AreRun l.fn.job l.number l.world

abbrev pub decreases-loop-number : goal.decreases-loop-number
decreases-loop-number l = 4294967296 - l.number
