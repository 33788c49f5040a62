-- Desks with the keys that they remember, and the records that stand for them.
use Rattle.std.specs.Prelude.{ℕ, ◌≡◌, ◌≤◌, ◌==◌, Bool, List, length, map, filter, slice_get, Some}
use Rattle.sessions.specs.declared.job_key.KeyedJob.{KeyedJob}
use Rattle.sqlite_keyed.specs.Keyed.{IsKeyedBy}
use Rattle.desk_records.specs.Made.{key_id}
use Rattle.desk_records.specs.Stored.{AreNarrow, Ledgers}
use Rattle.desk_records.specs.declared.stored_key.StoredKey.{StoredKey}
use Rattle.server_state.specs.States.{DeskState}
use Rattle.ledger_records.specs.LedgerRecords.{AreLedgersAlike, IsLedgerOf}

abbrev pub is_key_of : ℕ → StoredKey → Bool
is_key_of desk key = key.desk == desk

abbrev pub keyed_job : StoredKey → KeyedJob
keyed_job key = record { job = key.number; key = key.key }

-- the keyed jobs of a desk, oldest first
abbrev pub keyed_jobs_of : ℕ → List StoredKey → List KeyedJob
keyed_jobs_of desk keys = map keyed_job (filter (is_key_of desk) keys)

-- these are the records of the desk
pub record IsDeskOf (desk : ℕ) (l : Ledgers) (state : DeskState) : Type 0 where
  pub ledger : IsLedgerOf desk l state.ledger
  pub keys : state.keys ≡ keyed_jobs_of desk l.keys
  pub few : length state.keys ≤ 1000

-- These are the records of the desks, each at its place. Their numbers are within what a row holds,
-- and the keys stand in order.
pub record AreDesksOf (l : Ledgers) (desks : List DeskState) : Type 0 where
  pub each : (place : ℕ) (state : DeskState) → slice_get desks place ≡ Some state
      → IsDeskOf place l state
  pub narrow : AreNarrow l
  pub rise : IsKeyedBy key_id l.keys

-- desks of which nobody can tell which is which: their ledgers are alike, and they remember the
-- same keyed jobs
pub record AreStatesAlike (first second : DeskState) : Type 0 where
  pub ledgers : AreLedgersAlike first.ledger second.ledger
  pub keys : first.keys ≡ second.keys
