-- The history of a shared journal: the records that were put into it, in order.
use Rattle.std.specs.Prelude.{◌≡◌, ◌==◌, ℕ, Bool, true, false, List, [], ◌∷◌, ◌++◌, if◌then◌else◌}
use mathlib.Core.List.{IsPrefix}
use Rattle.atomic_table.specs.Seated.{TableId}
use Rattle.shared_journal.specs.declared.seat_views.JournalEntry.{JournalEntry}

-- the bytes of these records, one after the other
abbrev pub journal_bytes : List JournalEntry → List ℕ
journal_bytes [] = []
journal_bytes (e ∷ es) = e.bytes ++ journal_bytes es

-- those that were put in from one seat, in order
abbrev pub entries_by : ℕ → List JournalEntry → List JournalEntry
entries_by n [] = []
entries_by n (e ∷ es) = if e.by == n then e ∷ entries_by n es else entries_by n es

-- Which journal it is: its table, and the bytes that its log held at first.
pub record JournalName : Type 0 where
  pub table : TableId
  pub first : List ℕ

-- One seat's knowledge of a journal: its own number, a beginning of the history, its own records in
-- the history, a beginning of what is durable, and whether the journal has failed.
pub record JournalKnowledge : Type 0 where
  pub journal : JournalName
  pub number : ℕ
  pub seen : List JournalEntry
  pub own : List JournalEntry
  pub durable : List JournalEntry
  pub has_failed : Bool

-- What a note knows of a journal: a beginning of its history, a beginning of what is durable, and
-- whether the journal has failed.
pub record NoteKnowledge : Type 0 where
  pub journal : JournalName
  pub seen : List JournalEntry
  pub durable : List JournalEntry
  pub has_failed : Bool

-- The note knows all that this seat had seen, and among it each record that the seat put in.
pub record IsNoteOf (note : NoteKnowledge) (seat : JournalKnowledge) : Type 0 where
  pub journal : note.journal ≡ seat.journal
  pub seen : IsPrefix seat.seen note.seen
  pub own : entries_by seat.number seat.seen ≡ seat.own

-- The knowledge of who follows a journal: the bytes of it that were given so far, and whether it has
-- failed.
pub record FollowerKnowledge : Type 0 where
  pub journal : JournalName
  pub copied : List ℕ
  pub has_failed : Bool

-- a record, put in from this seat
abbrev pub entry_by : JournalKnowledge → List ℕ → JournalEntry
entry_by v bytes = record { by = v.number; bytes = bytes }

-- the same knowledge, but for whether the journal has failed
pub record KnowsTheSame (v w : JournalKnowledge) : Type 0 where
  pub journal : w.journal ≡ v.journal
  pub number : w.number ≡ v.number
  pub seen : w.seen ≡ v.seen
  pub own : w.own ≡ v.own
  pub durable : w.durable ≡ v.durable

-- The record was put behind all that the seat had seen, and behind records of others. The history
-- ended with it then. Of this seat it has one record more, and none twice.
pub record HasAddedRecord (v : JournalKnowledge) (bytes : List ℕ) (w : JournalKnowledge) :
    Type 0 where
  pub journal : w.journal ≡ v.journal
  pub number : w.number ≡ v.number
  pub between : List JournalEntry
  pub seen : w.seen ≡ (v.seen ++ between) ++ entry_by v bytes ∷ []
  pub more : w.own ≡ v.own ++ entry_by v bytes ∷ []
  pub own : entries_by w.number w.seen ≡ w.own
  pub durable : w.durable ≡ v.durable

-- All that the seat had seen is durable, with the records that came meanwhile. The journal had not
-- failed.
pub record HasCommitted (v w : JournalKnowledge) : Type 0 where
  pub journal : w.journal ≡ v.journal
  pub number : w.number ≡ v.number
  pub went_on : v.has_failed ≡ false
  pub seen : IsPrefix v.seen w.seen
  pub durable : w.durable ≡ w.seen
  pub own : w.own ≡ v.own

-- No more is durable than the seat knew. The journal has failed, and the seat knows it.
pub record HasStopped (v w : JournalKnowledge) : Type 0 where
  pub journal : w.journal ≡ v.journal
  pub number : w.number ≡ v.number
  pub stopped : w.has_failed ≡ true
  pub seen : IsPrefix v.seen w.seen
  pub own : w.own ≡ v.own
  pub durable : IsPrefix v.durable w.durable
