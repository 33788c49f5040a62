-- A machine with its journal.
use Rattle.std.specs.Prelude.{◌≡◌, ℕ, ◌≤◌, List, length, take}
use Rattle.journal.specs.Records.{journal_of}
use Rattle.journal.specs.Logs.{LogState}
use Rattle.recovery.specs.declared.journaled.Journaled.{Journaled}
use Rattle.recovery.specs.declared.replay.Recovered.{Recovered}
use Rattle.recovery.specs.Histories.{IsAfter}
use Rattle.recovery.specs.Writers.{WritesHistory}

-- The machine is after this history, and the log keeps that, so many changes of it committed.
pub record IsJournaled {M L : Type 0} (starts : M → Type 0) (steps : M → List ℕ → M → Type 0)
    (state : L → LogState) (history : List (List ℕ)) (committed : ℕ) (journaled : Journaled M L) :
    Type 0 where
  pub machine : IsAfter starts steps history journaled.machine
  pub log : WritesHistory state history committed journaled.writer

-- The machine is after the first changes of the history, with each that is committed. The bytes up
-- to the length are the records of these.
pub record IsRecovered {M : Type 0} (starts : M → Type 0) (steps : M → List ℕ → M → Type 0)
    (bytes : List ℕ) (history : List (List ℕ)) (committed : ℕ) (found : Recovered M) :
    Type 0 where
  pub count : ℕ
  pub at_least : committed ≤ count
  pub at_most : count ≤ length history
  pub machine : IsAfter starts steps (take count history) found.machine
  pub good : take found.len bytes ≡ journal_of (take count history)
