-- The recorders of desks, one for each.
use Rattle.std.specs.Prelude.{◌≡◌, ℕ, List, [], None, Option, if◌then◌else◌, length, nat_eq, slice_get, Some, true, false}
use Rattle.accounts.specs.declared.keep_limits.KeepLimits.{KeepLimits}
use Rattle.accounts.specs.Ledgers.{Ledger, KeepsWithin}
use Rattle.sessions.specs.declared.job_key.KeyedJob.{KeyedJob}
use Rattle.shared_desk.specs.declared.door.Door.{Door}
use Rattle.tenant_desks.specs.Routing.{place_behind}
use Rattle.desk_recorder.specs.Recording.{IsRecorded, RecordsMore, keyed_taken}
use Rattle.desk_recorder.specs.declared.recorder.ChangeRecorder.{ChangeRecorder}

-- of a note: it covers all that was recorded for the desk at this place, if that has a recorder
abbrev pub CoversDeskAt : {Q M : Type 0} → (ℕ → M → Q → Type 0) → ℕ → M → List (ChangeRecorder Q)
    → Type 0
CoversDeskAt {Q} covers place note recorders = (recorder : ChangeRecorder Q)
    → slice_get recorders place ≡ Some recorder → covers place note recorder.queue

-- a recorder of this queue that goes on, and has noted that the desk may have changed
pub record IsNewRecorder {Q : Type 0} (queue : Q) (recorder : ChangeRecorder Q) : Type 0 where
  pub same : recorder.queue ≡ queue
  pub goes_on : recorder.is_stopped ≡ false
  pub noted : recorder.has_changed ≡ true

-- What a recorder took while its desk changed, with these keyed jobs. Unless it has stopped, its queue
-- has the records of all changes. It stops for ever, and only once its queue is told so.
pub record TakesRecords {Q : Type 0} (taken : Q → List ℕ) (failed : Q → Type 0)
    (before after : ChangeRecorder Q) (old new : Ledger) (keyed : List KeyedJob) : Type 0 where
  pub going : after.is_stopped ≡ false → before.is_stopped ≡ false
  pub told : (before.is_stopped ≡ true → failed before.queue) → after.is_stopped ≡ true
      → failed after.queue
  pub records : after.is_stopped ≡ false
      → RecordsMore taken before.queue after.queue old new keyed

-- the same with whichever keyed jobs there were
abbrev pub TakesSome : {Q : Type 0} → (Q → List ℕ) → (Q → Type 0) → ChangeRecorder Q
    → ChangeRecorder Q → Ledger → Ledger → Type 0
TakesSome taken failed before after old new =
    (keyed : List KeyedJob) × TakesRecords taken failed before after old new keyed

-- what a recorder took while its desk changed, without keyed jobs
abbrev pub IsRecordedPlainly : {Q : Type 0} → (Q → List ℕ) → (Q → Type 0) → ChangeRecorder Q
    → ChangeRecorder Q → Ledger → Ledger → Type 0
IsRecordedPlainly taken failed before after old new =
    IsRecorded taken failed before after old new []

-- at each place, the desk and its recorder change together so
pub record EachRecorder {Q : Type 0}
    (change : ChangeRecorder Q → ChangeRecorder Q → Ledger → Ledger → Type 0)
    (before after : List (ChangeRecorder Q)) (old new : List Ledger) : Type 0 where
  pub recorders : length after ≡ length before
  pub desks : length new ≡ length old
  pub each : (place : ℕ) (p q : ChangeRecorder Q) (d e : Ledger) → slice_get before place ≡ Some p
      → slice_get after place ≡ Some q → slice_get old place ≡ Some d → slice_get new place ≡ Some e
      → change p q d e

-- each desk's recorder takes what changes that desk, and nothing else
abbrev pub AreRecorded : {Q : Type 0} → (Q → List ℕ) → (Q → Type 0) → List (ChangeRecorder Q)
    → List (ChangeRecorder Q) → List Ledger → List Ledger → Type 0
AreRecorded taken failed = EachRecorder (TakesSome taken failed)

-- the key of a submit at a door, for the desk at a place: that of the door's own desk
abbrev pub key_at : Door → Option (List ℕ) → ℕ → Option (List ℕ)
key_at door key place = if nat_eq (place_behind door) place then key else None

-- The record of a job that a door's own desk took has its key, if it came by one. No other record has
-- a key.
abbrev pub TakesKeyed : {Q : Type 0} → (Q → List ℕ) → (Q → Type 0) → Door → Option (List ℕ)
    → List (ChangeRecorder Q) → List (ChangeRecorder Q) → List Ledger → List Ledger → Type 0
TakesKeyed {Q} taken failed door key before after old new =
    (place : ℕ) (p q : ChangeRecorder Q) (d e : Ledger) → slice_get before place ≡ Some p
    → slice_get after place ≡ Some q → slice_get old place ≡ Some d → slice_get new place ≡ Some e
    → TakesRecords taken failed p q d e (keyed_taken (key_at door key place) d e)

-- Each desk has a recorder. Where that has noted no change since the desk last forgot, the desk has
-- nothing more to forget.
pub record HaveForgotten {Q : Type 0} (keep : KeepLimits) (desks : List Ledger)
    (recorders : List (ChangeRecorder Q)) : Type 0 where
  pub paired : length recorders ≡ length desks
  pub each : (place : ℕ) (desk : Ledger) (recorder : ChangeRecorder Q)
      → slice_get desks place ≡ Some desk → slice_get recorders place ≡ Some recorder
      → recorder.has_changed ≡ false → KeepsWithin keep desk desk
