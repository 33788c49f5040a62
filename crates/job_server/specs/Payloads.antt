-- From the payload of a submit to the payload of its result.
use Rattle.std.specs.Prelude.{◌≡◌, ◌+◌, ℕ, List, ◌∷◌, ◌++◌, length, slice_get, Some, Ok, OnOk}
use mathlib.Core.List.{IsPrefix}
use Rattle.sessions.specs.Frames.{front, whole}
use Rattle.sessions.specs.Grammar.{Asked, result}
use Rattle.shared_desk.specs.HeardAt.{HearsAt}
use Rattle.shared_desk.specs.Histories.{HistoryEntry, replies_of}
use Rattle.shared_desk.specs.declared.closed.ClosedConnection.{ClosedConnection}
use Rattle.job_server.specs.EndToEnd.{ComesFromSubmit, submit_of}

-- the payload of the frame of this number, counted from 0, at the front of the bytes
pub data IsPayloadAt (payload : List ℕ) : ℕ → List ℕ → Type 0 where
  first : (bytes rest : List ℕ) → front bytes ≡ whole payload rest → IsPayloadAt payload 0 bytes
  later : (number : ℕ) (bytes other rest : List ℕ) → front bytes ≡ whole other rest
      → IsPayloadAt payload number rest → IsPayloadAt payload (number + 1) bytes

-- The connection's part has this entry behind so many others. The frame that came behind as many
-- has a payload that asks this by its door. Unless the connection was given up, the entry's reply was
-- written behind those of the entries ahead.
pub record WentThrough (c : ClosedConnection) (e : HistoryEntry) (asks : Asked) : Type 0 where
  pub ahead : List HistoryEntry
  pub behind : List HistoryEntry
  pub is_part : c.part ≡ ahead ++ e ∷ behind
  pub payload : List ℕ
  pub came : IsPayloadAt payload (length ahead) c.read
  pub hears : HearsAt c.passage.door payload (Ok asks)
  pub written : OnOk c.outcome (IsPrefix (replies_of ahead ++ e.reply) c.written)

-- if the entry's connection is over, the entry went through it
abbrev pub IsEntryOf : List ClosedConnection → HistoryEntry → Asked → Type 0
IsEntryOf closed e asks = (i : ℕ) (c : ClosedConnection) → slice_get closed i ≡ Some c
    → c.connection ≡ e.connection → WentThrough c e asks

-- The result comes from a submit before it, and the payloads and replies of both went through their
-- connections.
pub record ComesFromPayload (closed : List ClosedConnection) (before : List HistoryEntry)
    (number : ℕ) (e : HistoryEntry) : Type 0 where
  pub comes : ComesFromSubmit before number e
  pub submitted : IsEntryOf closed comes.asked (submit_of comes.is_submit.name
      comes.is_submit.programs comes.is_submit.credit comes.is_submit.buffer)
  pub told : IsEntryOf closed e (result number)
