use Rattle.std.proofs.Common.{take}
use Rattle.ledger_records.proofs.OrderLemmas.{AreBelow}
use Rattle.ledger_records.proofs.restored_desks.check_order.Given as goal

abbrev pub invariant-loop-row : goal.invariant-loop-row
invariant-loop-row l = AreBelow (take l.row-index l.keys) l.next
