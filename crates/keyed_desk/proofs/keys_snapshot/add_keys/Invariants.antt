use Rattle.std.proofs.Common.{length}
use Rattle.desk_journal.proofs.Added.{Added}
use Rattle.keyed_desk.specs.KeyedSnapshots.{AreKeyChanges}
use Rattle.keyed_desk.proofs.keys_snapshot.add_keys.Given as goal

-- the records of the keys ahead of the rest are added
abbrev pub invariant-keys : goal.invariant-keys
invariant-keys l = Added (AreKeyChanges l.fn.keys) (AreKeyChanges l.rest) l.initial.out.items l.out.items

abbrev pub decreases-keys : goal.decreases-keys
decreases-keys l = length l.rest
