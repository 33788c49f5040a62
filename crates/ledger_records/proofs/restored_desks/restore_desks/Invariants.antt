use Rattle.std.proofs.Common.{◌≡◌, length}
use Rattle.ledger_records.specs.RestoredDesks.{AreEachRestored}
use Rattle.ledger_records.proofs.restored_desks.restore_desks.Given as goal

abbrev pub invariant-loop-number : goal.invariant-loop-number
invariant-loop-number l = (length l.desks.items ≡ l.number) × AreEachRestored l.records l.desks.items
