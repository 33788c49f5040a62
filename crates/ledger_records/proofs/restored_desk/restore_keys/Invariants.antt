use Rattle.std.proofs.Common.{take}
use Rattle.ledger_records.specs.SoFar.{AreKeysSoFar}
use Rattle.ledger_records.proofs.restored_desk.restore_keys.Given as goal

abbrev pub invariant-loop-row : goal.invariant-loop-row
invariant-loop-row l = AreKeysSoFar l.number l.count (take l.row-index l.rows) l.keys.jobs
