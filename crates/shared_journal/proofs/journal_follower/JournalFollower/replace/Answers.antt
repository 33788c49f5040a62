use Rattle.std.proofs.Common.{sym, subst}
use Rattle.shared_journal.specs.Standing.{AreSnapshotFor}
use Rattle.shared_journal.proofs.Standings.{snapshot_stands}
use Rattle.shared_journal.proofs.journal_follower.JournalFollower.replace.Goals as goal

pub write_meanwhile-requires-clause-stands : goal.write_meanwhile-requires-clause-stands
write_meanwhile-requires-clause-stands g c =
    snapshot_stands _ _ (subst (λ b. AreSnapshotFor b c.args.self.now.copied) (sym c.in_ok-new.ensures) c.requires.snapshot)
