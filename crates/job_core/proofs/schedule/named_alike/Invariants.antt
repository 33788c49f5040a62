use Rattle.std.proofs.Common.{◌-◌, length}
use Rattle.job_core.proofs.Schedules.{AreNamed}
use Rattle.job_core.proofs.schedule.named_alike.Given as goal

abbrev pub invariant-loop-named : goal.invariant-loop-named
invariant-loop-named l = AreNamed l.schedule l.named l.number

abbrev pub decreases-loop-named : goal.decreases-loop-named
decreases-loop-named l = length l.schedule - l.named

abbrev pub invariant-loop-named-2 : goal.invariant-loop-named-2
invariant-loop-named-2 l = AreNamed l.schedule l.named l.number

abbrev pub decreases-loop-named-2 : goal.decreases-loop-named-2
decreases-loop-named-2 l = length l.schedule - l.named
