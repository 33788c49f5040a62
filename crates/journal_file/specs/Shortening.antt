-- What a journal's file comes to where a snapshot may take its place.
use Rattle.std.specs.Prelude.{◌≡◌, ◌⊎◌, ◌≤◌, ◌<◌, ◌*◌, ℕ, List, [], Vec, length}
use Rattle.std.specs.Global.{Global}
use Rattle.compaction.specs.Snapshots.{IsSnapshot}
use Rattle.journal_file.specs.FileLogs.{file_state}
use Rattle.journal_file.specs.declared.file_log.FileLog.{FileLog}
use Rattle.journal_file.specs.declared.shortening.KeptBy.{KeptBy}
use Rattle.journal_file.specs.declared.shortening.KeptBy.TheVariants as kept
use Rattle.journal_file.specs.declared.shortening.Shortened.{Shortened}
use Rattle.journal_file.specs.declared.shortening.Shortened.TheVariants as came_to

module _ {M : Type 0} (starts : M → Type 0) (steps : M → List ℕ → M → Type 0) (alike : M → M → Type 0)
    (is_too_large : M → Type 0) (machine : M) (journal : List ℕ) where
  -- The log goes on behind these records of a snapshot of this state, all of them durable. They are
  -- at most half as long as the journal.
  pub record GoesOnFromSnapshot (after : FileLog) (bytes : Vec ℕ Global) : Type 0 where
    pub snapshot : IsSnapshot starts steps alike machine bytes.items
    pub half : 2 * length bytes.items ≤ length journal
    pub state : file_state after ≡ record { durable = bytes.items; pending = [] }

  -- the journal is empty, or a snapshot of this state is more than half as long
  abbrev pub IsShortEnough : Type 0
  IsShortEnough = (journal ≡ []) ⊎ ((bytes : List ℕ)
      × IsSnapshot starts steps alike machine bytes × (length journal < 2 * length bytes))

  -- a reason may be this one
  abbrev pub MayBeKeptBy : KeptBy → Type 0
  MayBeKeptBy kept.TooLarge = is_too_large machine
  MayBeKeptBy other = Unit {0}

  -- what a log came to
  abbrev pub IsShortened : FileLog → Shortened → Type 0
  IsShortened log (came_to.NotNeeded after) = (after ≡ log) × IsShortEnough
  IsShortened log (came_to.Replaced after bytes) = GoesOnFromSnapshot after bytes
  IsShortened log (came_to.Kept after why) = (after ≡ log) × MayBeKeptBy why
  IsShortened log came_to.Unknown = Unit {0}

-- a log goes on behind bytes like these, all of them durable
abbrev pub GoesOnBehind : (List ℕ → Type 0) → FileLog → Type 0
GoesOnBehind are log =
    (bytes : List ℕ) × are bytes × (file_state log ≡ record { durable = bytes; pending = [] })

-- the log that goes on, if one does, is behind bytes like these
abbrev pub AllGoOnBehind : (List ℕ → Type 0) → Shortened → Type 0
AllGoOnBehind are (came_to.NotNeeded log) = GoesOnBehind are log
AllGoOnBehind are (came_to.Replaced log bytes) = GoesOnBehind are log
AllGoOnBehind are (came_to.Kept log why) = GoesOnBehind are log
AllGoOnBehind are came_to.Unknown = Unit {0}
