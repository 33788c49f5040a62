use Rattle.std.proofs.Common.{length}
use Rattle.shared_journal.specs.Commits.{AreCommitted, HasFailedOne}
use Rattle.shared_journal.proofs.each_journal.commit_each.Given as goal

-- all are committed once the rest are, and one has failed where one of the rest has
abbrev pub invariant-journals : goal.invariant-journals
invariant-journals g l =
    (AreCommitted g.J.GroupJournal.committed l.rest → AreCommitted g.J.GroupJournal.committed l.journals)
    × (HasFailedOne g.J.GroupJournal.failed l.rest → HasFailedOne g.J.GroupJournal.failed l.journals)

abbrev pub decreases-journals : goal.decreases-journals
decreases-journals g l = length l.rest
