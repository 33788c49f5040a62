use Rattle.std.proofs.Common.{length}
use Rattle.desk_journal.specs.SnapshotChanges.{AreAccountChanges, HasLargeAccount}
use Rattle.desk_journal.proofs.Added.{Added}
use Rattle.desk_journal.proofs.snapshot.add_accounts.Given as goal

-- the records of the accounts ahead of the rest are added
abbrev pub invariant-accounts : goal.invariant-accounts
invariant-accounts l = record {
  added : Added (AreAccountChanges l.accounts) (AreAccountChanges l.rest) l.initial.out.items l.out.items;
  large : HasLargeAccount l.rest → HasLargeAccount l.accounts;
}

abbrev pub decreases-accounts : goal.decreases-accounts
decreases-accounts l = length l.rest
