-- The rule of a board: what its word is, and what its seats know.
use Rattle.std.specs.Prelude.{◌≡◌, ℕ, ◌+◌, true, false, List, [], ◌∷◌}
use mathlib.Core.Option.{some}
use mathlib.Core.List.{IsPrefix}
use lib.ListN.{get_elem?}
use Rattle.atomic_table.specs.Table.{State, Me, Step}
use Rattle.credit_book.specs.declared.event.Event.{Event}
use Rattle.credit_book.specs.declared.seats.Opening.{Opening}
use Rattle.credit_book.specs.declared.seats.View.{View}
use Rattle.credit_book.specs.declared.event.Event.TheVariants.{Open}
use Rattle.credit_book.specs.History.{IsLegal, IsHistoryOf, board_word}
use Rattle.credit_book.specs.Quiet.{GrowsByEnd}

-- the writer knows the history
abbrev pub writer : List Event → View
writer history = record { writes = true; history = history; looks = 0 }

-- a reader knows a history that it has seen, and how often it has looked
abbrev pub reader : List Event → ℕ → View
reader seen looks = record { writes = false; history = seen; looks = looks }

abbrev pub opened : Opening → View
opened o = writer (Open o.job o.issued ∷ [])

-- each seat knows a beginning of the history, and the one writer knows all of it
abbrev pub Fits : ℕ → List Event → ℕ → View → Type 0
Fits seat history by v =
    IsPrefix v.history history × (v.writes ≡ true → (by ≡ seat) × (v.history ≡ history))

-- between any two steps there is one legal history, of which the word has the sums
abbrev pub BoardRule : {S : Type 0} → Opening → State S View → Type 0
BoardRule o s =
    (seat : ℕ) × (history : List Event) × IsHistoryOf o.job o.issued history
    × (s.words ≡ board_word history ∷ [])
    × ((by : ℕ) (v : View) → get_elem? s.views by ≡ some v → Fits seat history by v)

-- a reader has seen a legal history that begins with what it had seen, and whose sums are the word
abbrev pub Looks : {S : Type 0} → Step S → Me S View → ℕ → Me S View → Type 0
Looks s v found w =
    (seen : List Event) × (w ≡ (reader seen (v.0.looks + 1), v.1)) × IsPrefix v.0.history seen
    × IsLegal seen × (board_word seen ≡ found)

-- the writer posts one end: it knows a legal history then that has grown by it
abbrev pub Tells : {S : Type 0} → List Event → Step S → Me S View → ℕ → Me S View → Type 0
Tells now s v found w = (w ≡ (writer now, v.1)) × IsLegal now × GrowsByEnd v.0.history now
