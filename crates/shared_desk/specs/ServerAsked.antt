-- What is asked of a server itself, and not of its desks.
use Rattle.std.specs.Prelude.{◌≡◌, ℕ, List, [], ◌∷◌, ◌++◌, Bool, true, false, Option, Some, None, Err}
use Rattle.sessions.specs.Replies.{frame_or_refusal, server_data}
use Rattle.sessions.specs.declared.door_forms.DoorForm.{DoorForm}
use Rattle.sessions.specs.declared.door_forms.DoorForm.TheVariants.{Jobs, Keyed, Server}
use Rattle.sessions.specs.declared.server_totals.ConnectionTotals.{ConnectionTotals}
use Rattle.sessions.specs.declared.server_totals.JobTotals.{JobTotals}
use Rattle.sessions.specs.declared.server_totals.RefusalCount.{RefusalCount}
use Rattle.shared_desk.specs.declared.passage.Passage.{Passage}
use Rattle.shared_desk.specs.Histories.{HistoryEntry, Query}

-- whether a form asks what the server counts, also where it is to stop
abbrev pub asks_server : Option DoorForm → Bool
asks_server None = false
asks_server (Some (Jobs from)) = false
asks_server (Some (Keyed key)) = false
asks_server (Some (Server stops)) = true

-- whether a form asks the server to stop
abbrev pub asks_to_stop : Option DoorForm → Bool
asks_to_stop None = false
asks_to_stop (Some (Jobs from)) = false
asks_to_stop (Some (Keyed key)) = false
asks_to_stop (Some (Server stops)) = stops

-- what is no request of the plain protocol, by a passage
abbrev pub nothing_asked : Passage → Query
nothing_asked passage = record { passage = passage; asked = Err 73; beyond = None }

-- the frame of what a server counts
abbrev pub TellsServer : List ℕ → Type 0
TellsServer reply =
    (connections : ConnectionTotals) × (instance : ℕ) × (jobs : JobTotals) × (lines_lost : ℕ)
    × (refusals : List RefusalCount) × (seconds : ℕ)
    × (reply ≡ frame_or_refusal (server_data connections instance jobs lines_lost refusals seconds))

-- The handler is asked what is no request, and the reply tells what the server counts; or the
-- handler answers.
abbrev pub CountsOrAnswers : {S : Type 0} → (S → Query → List ℕ → S → Type 0) → Bool → S → Query
    → List ℕ → S → Type 0
CountsOrAnswers answers true s query reply t =
    ((told : List ℕ) × answers s (nothing_asked query.passage) told t) × TellsServer reply
CountsOrAnswers answers false s query reply t = answers s query reply t

-- the answers of a handler behind doors of which one hears what the server counts
abbrev pub answers_counting : {S : Type 0} → (S → Query → List ℕ → S → Type 0) → S → Query → List ℕ
    → S → Type 0
answers_counting answers s query reply t =
    CountsOrAnswers answers (asks_server query.beyond) s query reply t

-- An entry, and what the handler was asked. It is the same, but where the server was asked: there
-- it is no request, and the reply tells what the server counts.
abbrev pub IsAskedOfDesks : Bool → HistoryEntry → HistoryEntry → Type 0
IsAskedOfDesks true e f =
    (f.connection ≡ e.connection) × (f.query ≡ nothing_asked e.query.passage) × TellsServer e.reply
IsAskedOfDesks false e f = f ≡ e

-- the entries of a history, and what the handler was asked in it, one after the other
pub data AreAskedOfDesks : List HistoryEntry → List HistoryEntry → Type 0 where
  none_yet : AreAskedOfDesks [] []
  one_more : (history asked : List HistoryEntry) (e f : HistoryEntry)
      → AreAskedOfDesks history asked → IsAskedOfDesks (asks_server e.query.beyond) e f
      → AreAskedOfDesks (history ++ e ∷ []) (asked ++ f ∷ [])
