-- A log, and the bytes that a crash leaves of it.
use Rattle.std.specs.Prelude.{◌≡◌, ℕ, ◌≤◌, List, [], ◌++◌, length, take}

-- The bytes that a sync made durable, and those that were written since.
pub record LogState : Type 0 where
  pub durable : List ℕ
  pub pending : List ℕ

-- all that was written
abbrev pub log_bytes : LogState → List ℕ
log_bytes log = log.durable ++ log.pending

-- with these bytes behind
abbrev pub appended : LogState → List ℕ → LogState
appended log bytes = record { durable = log.durable; pending = log.pending ++ bytes }

-- with all of it on the disk
abbrev pub synced : LogState → LogState
synced log = record { durable = log_bytes log; pending = [] }

-- A crash at this moment may leave these bytes: all that is durable, and some beginning of what is
-- pending.
pub record SurvivesCrash (log : LogState) (bytes : List ℕ) : Type 0 where
  pub kept : ℕ
  pub are : bytes ≡ log.durable ++ take kept log.pending

-- A crash at some moment from old to new may leave these bytes: a beginning of all that is written
-- in the end, with all that was durable at first. A log only grows.
pub record SurvivesCrashBetween (old new : LogState) (bytes : List ℕ) : Type 0 where
  pub kept : ℕ
  pub durable : length old.durable ≤ kept
  pub are : bytes ≡ take kept (log_bytes new)
