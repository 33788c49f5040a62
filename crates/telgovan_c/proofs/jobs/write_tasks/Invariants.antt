use Rattle.std.proofs.Common.{length, ◌-◌}
use Rattle.telgovan_c.proofs.JobLemmas.{AreWrittenTo}
use Rattle.telgovan_c.proofs.jobs.write_tasks.Given as goal

abbrev pub invariant-loop-done : goal.invariant-loop-done
invariant-loop-done l = AreWrittenTo l.ends l.initial.tasks l.done l.tasks

abbrev pub decreases-loop-done : goal.decreases-loop-done
decreases-loop-done l = length l.initial.tasks - l.done
