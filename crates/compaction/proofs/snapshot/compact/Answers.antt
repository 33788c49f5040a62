use Rattle.std.proofs.Common.{List, ℕ, ap, subst, Err}
use Rattle.compaction.specs.Snapshots.{IsCompacted}
use Rattle.compaction.proofs.snapshot.compact.Goals as goal

pub returns-in-Ok-put_snapshot-clause-compacted : goal.returns-in-Ok-put_snapshot-clause-compacted
returns-in-Ok-put_snapshot-clause-compacted g c journal opened =
    subst
    (λ (bytes : List ℕ). IsCompacted g.M.StateMachine.starts g.M.StateMachine.steps g.M.Snapshot.alike c.args.machine.now bytes (g.F.JournalFiles.moments c.put_snapshot.new.files))
    c.deref.ensures.value
    (c.in-Ok-put_snapshot.ensures.compacted journal opened)

pub returns-in-Err-Kept-clause-kept : goal.returns-in-Err-Kept-clause-kept
returns-in-Err-Kept-clause-kept g c journal opened other =
    c.in-Err-Kept.ensures.kept journal opened (ap Err c.in-Err-Kept.field-0-is)
