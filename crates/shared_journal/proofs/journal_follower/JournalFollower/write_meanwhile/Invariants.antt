use Rattle.std.proofs.Common.{◌≡◌, false}
use Rattle.shared_journal.specs.Standing.{StandForJournal}
use Rattle.shared_journal.proofs.journal_follower.JournalFollower.write_meanwhile.Given as goal

-- unless the desk is lost, the new file stands for what was given so far
abbrev pub invariant-loop : goal.invariant-loop
invariant-loop g l =
    (l.self.journal ≡ l.journal.history) × (l.self.journal ≡ l.fn.self.journal)
    × (l.self.is_lost ≡ false → (l.fn.self.is_lost ≡ false) × StandForJournal l.new.bytes.items l.self.copied)
