-- Histories of what many connections asked, with the replies.
use Rattle.std.specs.Prelude.{ℕ, ◌==◌, Bool, true, false, List, [], ◌∷◌, ◌++◌, Option, Result}
use Rattle.sessions.specs.Grammar.{Asked}
use Rattle.sessions.specs.declared.door_forms.DoorForm.{DoorForm}
use Rattle.shared_desk.specs.declared.passage.Passage.{Passage}

-- By which passage something was asked; what the plain protocol hears of it, or the number of its
-- refusal; and what was asked beyond that, if something was.
pub record Query : Type 0 where
  pub passage : Passage
  pub asked : Result Asked ℕ
  pub beyond : Option DoorForm

-- the answers of a handler to which all passages are alike, and which hears the plain protocol alone
abbrev pub by_any_passage : {S : Type 0} → (S → Result Asked ℕ → List ℕ → S → Type 0) → S → Query
    → List ℕ → S → Type 0
by_any_passage answers s query reply t = answers s query.asked reply t

-- an answer: to which connection, what was asked, and the reply
pub record HistoryEntry : Type 0 where
  pub connection : ℕ
  pub query : Query
  pub reply : List ℕ

-- A history is legal and leads to a state: from a state that it may begin with, each reply is the
-- one that the plain handler gives there.
pub data Replays {S : Type 0} (answers : S → Query → List ℕ → S → Type 0) (begins : S
    → Type 0) : List HistoryEntry → S → Type 0 where
  none_yet : (s : S) → begins s → Replays answers begins [] s
  one_more : (history : List HistoryEntry) (s : S) (e : HistoryEntry) (t : S)
      → Replays answers begins history s → answers s e.query e.reply t
      → Replays answers begins (history ++ e ∷ []) t

-- an entry ahead of others, where the test says so
abbrev pub put_if : Bool → HistoryEntry → List HistoryEntry → List HistoryEntry
put_if true e es = e ∷ es
put_if false e es = es

-- one connection's part of a history, in order
abbrev pub part_of : ℕ → List HistoryEntry → List HistoryEntry
part_of n [] = []
part_of n (e ∷ es) = put_if (e.connection == n) e (part_of n es)

-- what was asked
abbrev pub queries_of : List HistoryEntry → List Query
queries_of [] = []
queries_of (e ∷ es) = e.query ∷ queries_of es

-- the bytes of the replies, one after the other
abbrev pub replies_of : List HistoryEntry → List ℕ
replies_of [] = []
replies_of (e ∷ es) = e.reply ++ replies_of es
