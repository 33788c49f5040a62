use Rattle.std.proofs.Common.{All, take}
use Rattle.ledger_records.specs.LedgerRecords.{HasFewerTaken}
use Rattle.ledger_records.proofs.restored_desk.tell_no_more.Given as goal

abbrev pub invariant-loop-row : goal.invariant-loop-row
invariant-loop-row l = All (HasFewerTaken l.number l.count) (take l.row-index l.desks)
