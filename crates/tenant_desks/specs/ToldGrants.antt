-- What a log is told of grants at tenants' desks.
use Rattle.std.specs.Prelude.{◌≡◌, ◌+◌, if◌then◌else◌, nat_lt, slice_get, Some, None, Ok, string_bytes}
use Rattle.accounts.specs.Ledgers.{Ledger, account_at}
use Rattle.accounts.specs.declared.tenants.Account.{Account}
use Rattle.server_log.specs.declared.grant_note.GrantNote.{GrantNote}
use Rattle.server_log.specs.declared.log_line.LogEvent.{LogEvent}
use Rattle.server_log.specs.declared.log_line.LogEvent.TheVariants.{Granted}
use Rattle.tenant_desks.specs.Routing.{tenant_place}
use Rattle.tenant_desks.specs.Tenancies.{Tenancy}

-- The grant that was noted was carried out at its tenant's desk, and the event tells it, with the
-- tenant's name where that desk is its own.
pub record IsToldGrant (desks : Tenancy) (note : GrantNote) (event : LogEvent) : Type 0 where
  pub desk : Ledger
  pub at : slice_get desks.desks (tenant_place desks.names (string_bytes note.tenant)) ≡ Some desk
  pub account : Account
  pub is : account_at desk (string_bytes note.tenant) ≡ Ok account
  pub granted : account.granted ≡ note.before + note.amount
  pub told : event ≡ Granted note.connection
      (if nat_lt 0 (tenant_place desks.names (string_bytes note.tenant)) then Some note.tenant
      else None)
      note.amount account.balance
