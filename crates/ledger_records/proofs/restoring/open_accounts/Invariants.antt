use Rattle.std.proofs.Common.{take}
use Rattle.ledger_records.specs.SoFar.{HasAccounts}
use Rattle.ledger_records.proofs.restoring.open_accounts.Given as goal

abbrev pub invariant-loop-row : goal.invariant-loop-row
invariant-loop-row l = HasAccounts l.number (take l.row-index l.tenants) l.desk
