-- A desk that follows a journal.
use Rattle.std.specs.Prelude.{◌≡◌, ℕ, Bool, List}
use Rattle.journal.specs.Records.{AllFitRecords, journal_of}
use Rattle.recovery.specs.Histories.{IsAfter, ReplaysChanges}
use Rattle.keyed_desk.specs.KeyedSteps.{IsNewKeyed, KeyedState, MakesKeyed}
use Rattle.shared_journal.specs.JournalHistories.{JournalName}

-- the bytes are records that lead to this desk
pub record LeadToDesk (bytes : List ℕ) (desk : KeyedState) : Type 0 where
  pub history : List (List ℕ)
  pub fits : AllFitRecords history
  pub are : bytes ≡ journal_of history
  pub after : IsAfter IsNewKeyed MakesKeyed history desk

-- the bytes are records that lead from one desk to another
pub record LeadFromDesk (bytes : List ℕ) (old new : KeyedState) : Type 0 where
  pub more : List (List ℕ)
  pub fits : AllFitRecords more
  pub are : bytes ≡ journal_of more
  pub leads : ReplaysChanges MakesKeyed old more new

-- the bytes that were replayed on a desk, and whether it is lost: one of them had no place there
pub record ReplayedDesk : Type 0 where
  pub replayed : List ℕ
  pub is_lost : Bool

-- who follows a journal: the bytes of it that were replayed so far, unless its desk is lost; whether
-- the journal has failed; how many bytes its file has; and from how many on it is compacted
pub record FollowerView : Type 0 where
  pub journal : JournalName
  pub copied : List ℕ
  pub is_lost : Bool
  pub has_failed : Bool
  pub len : ℕ
  pub next : ℕ
