-- The rule of the history's table, and what its steps tell.
use Rattle.std.specs.Prelude.{◌≡◌, ℕ, ◌+◌, ◌<◌, ◌≤◌, true, false, List, [], ◌∷◌, ◌++◌}
use mathlib.Core.Option.{some}
use mathlib.Core.List.{IsPrefix}
use lib.ListN.{get_elem?}
use Rattle.atomic_table.specs.Table.{Me, Step}
use Rattle.atomic_table.specs.Seated.{TableId}
use Rattle.shared_desk.specs.declared.seats.DeskView.{DeskView}
use Rattle.shared_desk.specs.declared.closed.ClosedConnection.{ClosedConnection}
use Rattle.shared_desk.specs.Histories.{HistoryEntry, part_of}
use Rattle.shared_desk.specs.Closed.{AreClosed, is_among}

-- the name of no table
abbrev pub no_history_table : TableId
no_history_table = record {
  words = 0;
  slots = 0;
  views_name = 0;
  atom = 0;
  block = 0;
  offset = 0;
  slot_names = [];
}

-- ---- who sits where

-- a seat that knows nothing
abbrev pub empty_desk_view : DeskView
empty_desk_view = record {
  is_client = false;
  number = 0;
  seen = [];
  part = [];
  is_opener = false;
  opened = 0;
  is_recorder = false;
  history = [];
  closed = [];
}

-- the recorder, who knows the whole history, and which connections are over
abbrev pub recorder : List HistoryEntry → List ClosedConnection → DeskView
recorder history closed =
    record empty_desk_view { is_recorder = true; history = history; closed = closed }

-- the opener, who knows how many connections were opened
abbrev pub opener : ℕ → DeskView
opener opened = record empty_desk_view { is_opener = true; opened = opened }

-- the first seat, which is both
abbrev pub founder : DeskView
founder = record empty_desk_view { is_opener = true; is_recorder = true }

-- a connection
abbrev pub client : ℕ → List HistoryEntry → List HistoryEntry → DeskView
client n seen part =
    record empty_desk_view { is_client = true; number = n; seen = seen; part = part }

-- a seat that becomes the recorder, or is it no more
abbrev pub with_recorder : DeskView → DeskView → DeskView
with_recorder v w =
    record v { is_recorder = w.is_recorder; history = w.history; closed = w.closed }

abbrev pub without_recorder : DeskView → DeskView
without_recorder v = record v { is_recorder = false; history = []; closed = [] }

abbrev pub only_recorder : DeskView → DeskView
only_recorder v =
    record empty_desk_view { is_recorder = v.is_recorder; history = v.history; closed = v.closed }

-- the opener has opened one more, which has seen nothing
abbrev pub one_more_opened : DeskView → DeskView
one_more_opened v = record v { opened = v.opened + 1 }

abbrev pub new_client_view : DeskView → DeskView
new_client_view v = client v.opened [] []

-- ---- the rule

-- what the view at a seat says is so
pub record FitsHistory (recorder_at opener_at : ℕ) (seat_of : ℕ → ℕ) (opened : ℕ)
    (history : List HistoryEntry)
    (closed : List ClosedConnection) (seat : ℕ) (v : DeskView) : Type 0 where
  pub recording : v.is_recorder ≡ true → (seat ≡ recorder_at) × (v.history ≡ history)
      × (v.closed ≡ closed)
  pub opening : v.is_opener ≡ true → (seat ≡ opener_at) × (v.opened ≡ opened)
  pub serving : v.is_client ≡ true → (seat ≡ seat_of v.number) × (v.number < opened)
      × (part_of v.number history ≡ v.part) × IsPrefix v.seen history
      × (is_among v.number closed ≡ false)

-- There is one history. One seat knows it whole, and one knows how many connections were opened.
-- Each connection that isn't over has one seat, which knows its part of the history. One that is
-- over has no seat, and its part is known. A connection that was not opened has no part.
pub record IsShared (views : List DeskView) : Type 0 where
  pub recorder_at : ℕ
  pub opener_at : ℕ
  pub seat_of : ℕ → ℕ
  pub opened : ℕ
  pub history : List HistoryEntry
  pub closed : List ClosedConnection
  pub each : (seat : ℕ) (v : DeskView) → get_elem? views seat ≡ some v
      → FitsHistory recorder_at opener_at seat_of opened history closed seat v
  pub ended : AreClosed opened history closed
  pub others : (n : ℕ) → opened ≤ n → part_of n history ≡ []

-- ---- the steps

-- a connection, as the recorder, adds an entry of its own
abbrev pub AddsEntry : {S : Type 0} → (HistoryEntry → Type 0) → Step S → Me S DeskView → ℕ → Me S DeskView
    → Type 0
AddsEntry allows s v found w =
    (e : HistoryEntry) × allows e × (e.connection ≡ v.0.number) × IsPrefix v.0.seen v.0.history
    × (part_of v.0.number (v.0.history ++ e ∷ []) ≡ v.0.part ++ e ∷ [])
    × (w ≡ (
      with_recorder (client v.0.number (v.0.history ++ e ∷ []) (v.0.part ++ e ∷ []))
          (recorder (v.0.history ++ e ∷ []) v.0.closed),
      v.1,
    ))

-- a connection, as the recorder, sees the whole history, of which it knows its part
abbrev pub SeesAll : {S : Type 0} → Step S → Me S DeskView → ℕ → Me S DeskView → Type 0
SeesAll s v found w =
    IsPrefix v.0.seen v.0.history × (part_of v.0.number v.0.history ≡ v.0.part)
    × (w ≡ (
      with_recorder (client v.0.number v.0.history v.0.part) (recorder v.0.history v.0.closed),
      v.1,
    ))

-- a connection, as the recorder, compares its part with the whole history, which begins with what
-- it has seen
abbrev pub KnowsItsPart : {S : Type 0} → Step S → Me S DeskView → ℕ → Me S DeskView → Type 0
KnowsItsPart s v found w =
    (w ≡ v) × (part_of v.0.number v.0.history ≡ v.0.part) × IsPrefix v.0.seen v.0.history

-- a connection, as the recorder, is over, and has no seat from then on
abbrev pub ClosesItself : {S : Type 0} → (ClosedConnection → Type 0) → Step S → Me S DeskView → ℕ
    → Me S DeskView → Type 0
ClosesItself allows s v found w =
    (c : ClosedConnection) × allows c × (c.connection ≡ v.0.number) × (c.part ≡ v.0.part)
    × (w ≡ (recorder v.0.history (c ∷ v.0.closed), v.1))

-- the opener, as the recorder, sees that a connection that was not opened has no part, and that
-- those that are over were opened and have their parts
abbrev pub KnowsTheCount : {S : Type 0} → Step S → Me S DeskView → ℕ → Me S DeskView → Type 0
KnowsTheCount s v found w =
    (w ≡ v) × ((n : ℕ) → v.0.opened ≤ n → part_of n v.0.history ≡ [])
    × AreClosed v.0.opened v.0.history v.0.closed
