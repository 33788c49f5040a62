-- The rule of a history of changes, and what its step tells.
use Rattle.std.specs.Prelude.{ℕ, ◌≡◌, ◌==◌, ◌<◌, true, List, [], ◌∷◌, ◌++◌, length, MatchBool}
use mathlib.Core.List.{IsPrefix}
use Rattle.logbook.specs.Pages.{Cell, Step, View, Book, Named}
use Rattle.desk_records.specs.declared.stored_change.StoredChange.{StoredChange}

-- The first word is the length of the history. A book has two words, and this one leaves the second
-- at 0.
pub record IsCountedHistory (cells : List Cell) (log : List StoredChange) : Type 0 where
  pub words : cells ≡ (length log, true) ∷ (0, true) ∷ []

abbrev pub history_head : Book → Named
history_head b = record { tracked = true; key = 0; book = b }

-- the change was added to all that had been seen; or the history was longer, and was seen
abbrev pub AddsChange : Step StoredChange → View StoredChange ℕ → ℕ → View StoredChange ℕ → Type 0
AddsChange s v found w = MatchBool (found == s.old) (w.0 ≡ v.0 ++ s.ask ∷ []) (length w.0 ≡ found)

-- ys begins with xs, and goes on
abbrev pub IsLonger : List StoredChange → List StoredChange → Type 0
IsLonger xs ys = IsPrefix xs ys × (length xs < length ys)
