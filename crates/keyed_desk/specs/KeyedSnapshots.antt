-- Desks with keys of which nobody can tell which is which, and the changes that put keys back.
use Rattle.std.specs.Prelude.{◌≡◌, ◌<◌, ◌^◌, ℕ, List, true}
use Rattle.std.specs.List.{AllZip}
use Rattle.sessions.specs.Grammar.{is_job_key}
use Rattle.sessions.specs.declared.job_key.KeyedJob.{KeyedJob}
use Rattle.desk_journal.specs.AlikeDesks.{AreDesksAlike}
use Rattle.desk_journal.specs.SnapshotChanges.{HasLargeChange}
use Rattle.keyed_desk.specs.KeyedChanges.{key_kept_bytes}
use Rattle.keyed_desk.specs.KeyedSteps.{KeyedState}

-- the desks are alike, and have the same keys
abbrev pub AreKeyedAlike : KeyedState → KeyedState → Type 0
AreKeyedAlike first second = AreDesksAlike first.desk second.desk × (first.keys ≡ second.keys)

-- a change of the desk is too long for a record (that of a key never is)
abbrev pub HasLargeKeyedChange : KeyedState → Type 0
HasLargeKeyedChange state = HasLargeChange state.desk

-- the change by which a job has its key again
pub record IsKeyChange (keyed : KeyedJob) (payload : List ℕ) : Type 0 where
  pub is : payload ≡ key_kept_bytes keyed.job keyed.key
  pub narrow : keyed.job < 2 ^ 64
  pub is_key : is_job_key keyed.key ≡ true

abbrev pub AreKeyChanges : List KeyedJob → List (List ℕ) → Type 0
AreKeyChanges = AllZip IsKeyChange
