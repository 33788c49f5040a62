-- What was told on a connection of a server with one desk.
use Rattle.std.specs.Prelude.{◌≡◌, ◌⊎◌, ℕ, List, [], ◌++◌, Some, slice_get}
use mathlib.Core.List.{IsPrefix}
use Rattle.shared_desk.specs.ClientViews.{ClientView}
use Rattle.shared_desk.specs.Histories.{HistoryEntry, Query, Replays, part_of, replies_of}
use Rattle.shared_journal.specs.JournalHistories.{NoteKnowledge, entries_by, journal_bytes}
use Rattle.shared_journal.specs.declared.journal_queue.JournalQueue.{JournalQueue}

-- of a desk's handler, with the queue that takes the records of its changes
module _ {D H R : Type 0} (answers : D × H → Query → List ℕ → D × H → Type 0) (begins : D × H → Type 0)
    (queue : H → JournalQueue R) (notes : List NoteKnowledge) where
  -- A legal history leads to a state. In it this connection was given replies that begin with these.
  -- Every record that the state's queue had seen is durable, and so are the bytes that it has taken: the
  -- records of the desk's changes.
  pub record AreToldDurably (number : ℕ) (replies : List ℕ) : Type 0 where
    pub history : List HistoryEntry
    pub state : D × H
    pub legal : Replays answers begins history state
    pub told : IsPrefix replies (replies_of (part_of number history))
    pub note : NoteKnowledge
    pub of_sink : slice_get notes 0 ≡ Some note
    pub journal : note.journal ≡ (queue state.1).seat.journal
    pub durable : IsPrefix (queue state.1).seat.seen note.durable
    pub records : IsPrefix (queue state.1).taken.bytes
        (journal_bytes (entries_by (queue state.1).seat.number note.durable))

  -- so are all replies that were written, but for a beginning of these bytes at the end
  pub record IsToldDurably (number : ℕ) (written last : List ℕ) : Type 0 where
    pub replies : List ℕ
    pub rest : List ℕ
    pub both : written ≡ replies ++ rest
    pub is_last : IsPrefix rest last
    pub durable : (replies ≡ []) ⊎ AreToldDurably number replies
