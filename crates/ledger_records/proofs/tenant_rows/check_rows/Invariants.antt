use Rattle.std.proofs.Common.{take}
use Rattle.ledger_records.specs.TenantRows.{AreTenantRows}
use Rattle.ledger_records.proofs.tenant_rows.check_rows.Given as goal

abbrev pub invariant-loop-place : goal.invariant-loop-place
invariant-loop-place l = AreTenantRows (take l.place l.rows)
