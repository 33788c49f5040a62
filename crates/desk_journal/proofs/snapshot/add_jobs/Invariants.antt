use Rattle.std.proofs.Common.{◌+◌, ◌-◌}
use Rattle.desk_journal.proofs.Added.{AreJobsAdded}
use Rattle.desk_journal.proofs.snapshot.add_jobs.Given as goal

-- the records of so many jobs are added
abbrev pub invariant-jobs : goal.invariant-jobs
invariant-jobs l = AreJobsAdded l.desk.jobs l.sources (l.done + 1) l.rest l.initial.out.items l.out.items

abbrev pub decreases-jobs : goal.decreases-jobs
decreases-jobs l = l.last - l.done
