-- The desks of a server that are put together from its records.
use Rattle.std.specs.Prelude.{ℕ, ◌≡◌, List, map, slice_get, Some}
use Rattle.sqlite_keyed.specs.Keyed.{IsKeyedBy}
use Rattle.desk_records.specs.Made.{key_id}
use Rattle.desk_records.specs.Stored.{Ledgers}
use Rattle.server_state.specs.States.{DeskState}
use Rattle.ledger_records.specs.DeskRecords.{IsDeskOf}
use Rattle.ledger_records.specs.SoFar.{AreOpenJobs}
use Rattle.ledger_records.specs.declared.restored_desk.RestoredDesk.{RestoredDesk}

-- the desk's plain state
abbrev pub restored_state : RestoredDesk → DeskState
restored_state r = record { ledger = r.desk; keys = r.keys.jobs }

-- the desk at a place, from these records, with its open jobs
pub record IsRestored (l : Ledgers) (place : ℕ) (r : RestoredDesk) : Type 0 where
  pub desk : IsDeskOf place l (restored_state r)
  pub jobs : AreOpenJobs place l.jobs l.outcomes r.open_jobs.items

-- each desk is that of its place
abbrev pub AreEachRestored : Ledgers → List RestoredDesk → Type 0
AreEachRestored l desks =
    (place : ℕ) (r : RestoredDesk) → slice_get desks place ≡ Some r → IsRestored l place r

-- so they are, and the keys stand in order
pub record AreRestored (l : Ledgers) (desks : List RestoredDesk) : Type 0 where
  pub each : AreEachRestored l desks
  pub rise : IsKeyedBy key_id l.keys
