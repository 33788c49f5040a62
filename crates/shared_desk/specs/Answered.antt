-- What one connection is answered at the desk that all share.
use Rattle.std.specs.Prelude.{◌≡◌, ℕ, List, [], ◌∷◌, ◌++◌, Option, Result, IfOk}
use Rattle.refusal.specs.declared.NoMemory.{NoMemory}
use Rattle.sessions.specs.declared.door_forms.DoorForm.{DoorForm}
use Rattle.streams.specs.Prepared.{asked_of}
use Rattle.streams.specs.declared.prepared_request.PreparedRequest.{PreparedRequest}
use Rattle.shared_desk.specs.declared.passage.Passage.{Passage}
use Rattle.shared_desk.specs.Histories.{HistoryEntry, Query, Replays, part_of}
use Rattle.shared_desk.specs.ClientViews.{ClientView}

-- what was asked by a passage
abbrev pub query_by : Passage → PreparedRequest → Option DoorForm → Query
query_by passage request beyond =
    record { passage = passage; asked = asked_of request; beyond = beyond }

-- this answer, to this connection
abbrev pub entry_for : ClientView → Query → List ℕ → HistoryEntry
entry_for v asked reply = record { connection = v.number; query = asked; reply = reply }

-- The reply is the one that the plain handler gives at some point of a legal history. That history
-- begins with all that the connection had seen, and goes on with what others were answered. The
-- connection has seen all of it then, and its own part is longer by this answer and nothing else.
pub record IsSharedAnswer {S : Type 0} (answers : S → Query → List ℕ → S → Type 0)
    (begins : S → Type 0) (v : ClientView) (asked : Query) (reply : List ℕ)
    (w : ClientView) : Type 0 where
  pub between : List HistoryEntry
  pub before : S
  pub legal : Replays answers begins (v.seen ++ between) before
  pub after : S
  pub answered : answers before asked reply after
  pub number : w.number ≡ v.number
  pub seen : w.seen ≡ (v.seen ++ between) ++ entry_for v asked reply ∷ []
  pub more : w.part ≡ v.part ++ entry_for v asked reply ∷ []
  pub own : part_of v.number w.seen ≡ w.part

-- an entry of what the handler answered: what was asked, and the reply, as far as it found memory
pub record Records {S : Type 0} (answers : S → Query → List ℕ → S → Type 0) (before : S)
    (asked : Query) (after : S) (reply : Result (List ℕ) NoMemory) (e : HistoryEntry) :
    Type 0 where
  pub same : e.query ≡ asked
  pub answered : answers before e.query e.reply after
  pub told : IfOk reply (λ r. e.reply ≡ r)
