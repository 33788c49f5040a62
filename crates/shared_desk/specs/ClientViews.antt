-- What one connection knows of the history.
use Rattle.std.specs.Prelude.{◌≡◌, ℕ, List, ◌++◌}
use mathlib.Core.List.{IsPrefix}
use Rattle.shared_desk.specs.Histories.{HistoryEntry}

-- its number, a beginning of the history, and its own part of that
pub record ClientView : Type 0 where
  pub number : ℕ
  pub seen : List HistoryEntry
  pub part : List HistoryEntry

-- the same connection, which has seen more, and whose part is longer by these entries
pub record Extends (v : ClientView) (part : List HistoryEntry) (w : ClientView) : Type 0 where
  pub number : w.number ≡ v.number
  pub seen : IsPrefix v.seen w.seen
  pub more : w.part ≡ v.part ++ part
