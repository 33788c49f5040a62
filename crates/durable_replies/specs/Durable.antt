-- What replies rest on, and what of it is durable.
use Rattle.std.specs.Prelude.{◌≡◌, ◌⊎◌, ℕ, Bool, true, List, [], ◌++◌, Option, None, Some, slice_get}
use mathlib.Core.List.{IsPrefix}
use Rattle.shared_desk.specs.ClientViews.{ClientView, Extends}
use Rattle.shared_desk.specs.Histories.{HistoryEntry, Query, Replays, part_of, replies_of}
use Rattle.shared_journal.specs.JournalHistories.{JournalName, NoteKnowledge}
use Rattle.shared_journal.specs.declared.reply_sync.ReplySync.{ReplySync}
use Rattle.shared_journal.specs.declared.reply_sync.ReplySync.TheVariants.{Always, Interval}

-- For each of these journals there is a note, at the same place of its list, of which this is so.
abbrev pub EachNote : {K N : Type 0} → (K → N → Type 0) → List K → List N → Type 0
EachNote P journals notes =
    (i : ℕ) (journal : _) → slice_get journals i ≡ Some journal
    → (note : _) × (slice_get notes i ≡ Some note) × P journal note

-- of journals and notes: which journal one is, what a note knows of one, and that a note is of a look at
-- a journal that had not failed
module _ {K N : Type 0} (name : K → JournalName) (known : N → NoteKnowledge) (sound : N → Type 0) where
  -- this journal was looked at, and had not failed
  abbrev pub IsFoundSound : K → N → Type 0
  IsFoundSound journal note = sound note × ((known note).journal ≡ name journal)

  -- so was each of these
  abbrev pub AreSound : List K → List N → Type 0
  AreSound = EachNote IsFoundSound

-- of a desk's handler, and of its notes of what was recorded for the desk at a place: for which place a
-- journal is, and what a note knows of one
module _ {D H N K : Type 0} (answers : D × H → Query → List ℕ → D × H → Type 0) (begins : D × H → Type 0)
    (covers : ℕ → N → H → Type 0) (desk : K → ℕ) (known : N → NoteKnowledge) where
  -- A legal history, which begins with all that the connection had seen and has all that it was
  -- answered, leads to a handler of which a note was taken for a place. All that this note says is
  -- durable, as is known of the same journal.
  pub record IsDurableAt (place : ℕ) (note : N) (v : ClientView) : Type 0 where
    pub history : List HistoryEntry
    pub state : D × H
    pub legal : Replays answers begins history state
    pub seen : IsPrefix v.seen history
    pub own : IsPrefix v.part (part_of v.number history)
    pub taken : N
    pub covered : covers place taken state.1
    pub journal : (known note).journal ≡ (known taken).journal
    pub durable : IsPrefix (known taken).seen (known note).durable

  -- so at the desk of each of these journals
  abbrev pub AreDurable : List K → List N → ClientView → Type 0
  AreDurable journals notes v =
      EachNote (λ journal note. IsDurableAt (desk journal) note v) journals notes

-- and which journal one is, and that a note is of a look at a journal that had not failed
module _ {D H N K : Type 0} (answers : D × H → Query → List ℕ → D × H → Type 0) (begins : D × H → Type 0)
    (covers : ℕ → N → H → Type 0) (name : K → JournalName) (desk : K → ℕ) (known : N → NoteKnowledge)
    (sound : N → Type 0) where
  -- Replies to the connection may go out: all that they rest on is durable; or no journal had failed,
  -- where these are committed at intervals.
  abbrev pub MayGoOut : ReplySync → List K → List N → ClientView → Type 0
  MayGoOut Always journals notes v = AreDurable answers begins covers desk known journals notes v
  MayGoOut Interval journals notes v = AreSound name known sound journals notes

  module _ (sync : ReplySync) (journals : List K) (notes : List N) where
    -- What was written begins the replies that the connection had been given when these might go out. Or
    -- nothing was written.
    pub record AreLetGo (written : List ℕ) (v : ClientView) : Type 0 where
      pub known_then : ClientView
      pub later : List HistoryEntry
      pub goes_on : Extends known_then later v
      pub told : IsPrefix written (replies_of known_then.part)
      pub may_go : (written ≡ []) ⊎ MayGoOut sync journals notes known_then

    -- the same, and these are the replies that aren't written yet
    abbrev pub LetGoAhead : List ℕ → ClientView → List ℕ → Type 0
    LetGoAhead written v waits = AreLetGo written v × (written ++ waits ≡ replies_of v.part)

    -- the same of all that was written, but for a beginning of these bytes at its end
    abbrev pub LetGoBefore : List ℕ → ClientView → List ℕ → Type 0
    LetGoBefore written v last =
        (replies part : List ℕ) × (written ≡ replies ++ part) × IsPrefix part last
        × AreLetGo replies v

-- whether a note knows that its journal has failed, if there is one
abbrev pub knows_failure : {N : Type 0} → (N → NoteKnowledge) → Option N → Bool
knows_failure known None = true
knows_failure known (Some note) = (known note).has_failed
