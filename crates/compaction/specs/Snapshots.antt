-- A snapshot, and the history that it stands for.
use Rattle.std.specs.Prelude.{◌≡◌, ◌++◌, ◌⊎◌, ℕ, List, []}
use Rattle.journal.specs.Records.{journal_of, AllFitRecords, DecodesTo}
use Rattle.recovery.specs.Histories.{IsAfter}
use Rattle.compaction.specs.Files.{Moments, HasNewJournal}

-- Changes with these payloads lead from the start to this state. Each state to which they lead is
-- alike this one.
pub record Restores {M : Type 0} (starts : M → Type 0) (steps : M → List ℕ → M → Type 0)
    (alike : M → M → Type 0) (payloads : List (List ℕ)) (machine : M) : Type 0 where
  pub reaches : IsAfter starts steps payloads machine
  pub only : (other : M) → IsAfter starts steps payloads other → alike other machine

-- The bytes are whole records. Their payloads are those of a snapshot of this state.
pub record IsSnapshot {M : Type 0} (starts : M → Type 0) (steps : M → List ℕ → M → Type 0)
    (alike : M → M → Type 0) (machine : M) (bytes : List ℕ) : Type 0 where
  pub payloads : List (List ℕ)
  pub fits : AllFitRecords payloads
  pub restores : Restores starts steps alike payloads machine
  pub are : bytes ≡ journal_of payloads

-- the state is alike one after the history
abbrev pub IsAlikeAfter : {M : Type 0} → (M → Type 0) → (M → List ℕ → M → Type 0)
    → (M → M → Type 0) → List (List ℕ) → M → Type 0
IsAlikeAfter {M} starts steps alike history machine =
    (twin : M) × IsAfter starts steps history twin × alike machine twin

-- each state after these changes is alike one after the history
abbrev pub StandsForHistory : {M : Type 0} → (M → Type 0) → (M → List ℕ → M → Type 0)
    → (M → M → Type 0) → List (List ℕ) → List (List ℕ) → Type 0
StandsForHistory {M} starts steps alike changes history =
    (other : M) → IsAfter starts steps changes other
    → IsAlikeAfter starts steps alike history other

-- The bytes are whole records. These lead to this state, and each state to which they lead is
-- alike one after the history.
pub record LeadsToHistory {M : Type 0} (starts : M → Type 0) (steps : M → List ℕ → M → Type 0)
    (alike : M → M → Type 0) (bytes : List ℕ) (history : List (List ℕ)) (machine : M) :
    Type 0 where
  pub payloads : List (List ℕ)
  pub reads : DecodesTo bytes payloads []
  pub reaches : IsAfter starts steps payloads machine
  pub only : StandsForHistory starts steps alike payloads history

-- The journal has these bytes, durable. They are the records of a snapshot of this state.
pub record IsCompacted {M : Type 0} (starts : M → Type 0) (steps : M → List ℕ → M → Type 0)
    (alike : M → M → Type 0) (machine : M) (bytes : List ℕ) (moments : Moments) : Type 0 where
  pub snapshot : IsSnapshot starts steps alike machine bytes
  pub replaced : HasNewJournal bytes moments

-- In place of records that lead to a state stand those of a snapshot of it.
pub record IsInPlace {M : Type 0} (starts : M → Type 0) (steps : M → List ℕ → M → Type 0)
    (alike : M → M → Type 0) (bytes replaced : List ℕ) : Type 0 where
  pub history : List (List ℕ)
  pub fits : AllFitRecords history
  pub were : replaced ≡ journal_of history
  pub machine : M
  pub after : IsAfter starts steps history machine
  pub snapshot : IsSnapshot starts steps alike machine bytes

-- The bytes stand for those of a whole journal: they are these, or a snapshot stands in place of the
-- first of them.
pub record StandsForBytes {M : Type 0} (starts : M → Type 0) (steps : M → List ℕ → M → Type 0)
    (alike : M → M → Type 0) (bytes whole : List ℕ) : Type 0 where
  pub base : List ℕ
  pub replaced : List ℕ
  pub more : List ℕ
  pub are : bytes ≡ base ++ more
  pub were : whole ≡ replaced ++ more
  pub in_place : (base ≡ replaced) ⊎ IsInPlace starts steps alike base replaced
