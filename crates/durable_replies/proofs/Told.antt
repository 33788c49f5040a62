-- What was told on a connection of a server with one desk.
use Rattle.std.proofs.Common.{◌≡◌, ◌==◌, ◌⊎◌, inl, inr, ℕ, Bool, true, false, if◌then◌else◌, List, [], ◌∷◌, ◌++◌, Some, slice_get, refl, sym, ap, ◌∙◌, subst}
use mathlib.Core.List.{IsPrefix}
use Rattle.shared_desk.specs.ClientViews.{ClientView}
use Rattle.shared_desk.specs.Histories.{HistoryEntry, Query, part_of, replies_of}
use Rattle.shared_desk.proofs.WholeStream.{replies_append}
use Rattle.shared_journal.proofs.JournalLists.{bytes_both, prefix_through}
use Rattle.shared_journal.specs.JournalHistories.{IsNoteOf, JournalName, NoteKnowledge, entries_by, journal_bytes}
use Rattle.shared_journal.specs.declared.seat_views.JournalEntry.{JournalEntry}
use Rattle.shared_journal.specs.declared.journal_queue.JournalQueue.{JournalQueue}
use Rattle.shared_journal.specs.declared.reply_sync.ReplySync.TheVariants.{Always}
use Rattle.durable_replies.specs.Durable.{AreDurable, AreLetGo, IsDurableAt, LetGoBefore}
use Rattle.durable_replies.specs.Told.{AreToldDurably, IsToldDurably}

-- the replies to a beginning are a beginning
replies_begin : (xs ys : List HistoryEntry) → IsPrefix xs ys → IsPrefix (replies_of xs) (replies_of ys)
replies_begin xs ys p = (replies_of p.0, sym (replies_append xs p.0) ∙ ap replies_of p.1)

-- what one seat put in of a list of records, and of another behind it
by_both : (n : ℕ) (xs ys : List JournalEntry) → entries_by n (xs ++ ys) ≡ entries_by n xs ++ entries_by n ys
by_both n [] ys = refl
by_both n (e ∷ es) ys = put (e.by == n) (by_both n es ys)
  where
    put : (own : Bool) → entries_by n (es ++ ys) ≡ entries_by n es ++ entries_by n ys
        → (if own then e ∷ entries_by n (es ++ ys) else entries_by n (es ++ ys)) ≡ (if own then e ∷ entries_by n es else entries_by n es) ++ entries_by n ys
    put true same = ap (λ (l : List JournalEntry). e ∷ l) same
    put false same = same

-- a beginning has a beginning of what one seat put in
own_begin : (n : ℕ) (xs ys : List JournalEntry) → IsPrefix xs ys → IsPrefix (journal_bytes (entries_by n xs)) (journal_bytes (entries_by n ys))
own_begin n xs ys p = (journal_bytes (entries_by n p.0), sym (bytes_both (entries_by n xs) (entries_by n p.0)) ∙ ap journal_bytes (sym (by_both n xs p.0) ∙ ap (entries_by n) p.1))

-- what a queue has taken is among it
taken_begin : {R : Type 0} (q : JournalQueue R) (note : NoteKnowledge) (durable : List JournalEntry) → IsNoteOf note q.seat → IsPrefix q.seat.seen durable
    → IsPrefix q.taken.bytes (journal_bytes (entries_by q.seat.number durable))
taken_begin q note durable is begins =
    subst (λ (bytes : List ℕ). IsPrefix bytes (journal_bytes (entries_by q.seat.number durable))) (ap journal_bytes is.own ∙ q.in_order) (own_begin q.seat.number q.seat.seen durable begins)

module _ {D H K R : Type 0} (answers : D × H → Query → List ℕ → D × H → Type 0) (begins : D × H → Type 0) (name : K → JournalName) (desk : K → ℕ) (queue : H → JournalQueue R) where
  abbrev pub knows : NoteKnowledge → NoteKnowledge
  knows note = note

  abbrev pub any : NoteKnowledge → Type 0
  any note = Unit {0}

  abbrev pub covers : ℕ → NoteKnowledge → H → Type 0
  covers place note h = IsNoteOf note (queue h).seat

  -- replies are those of a history in which the connection's part begins so
  told_at : (number place : ℕ) (notes : List NoteKnowledge) (note : NoteKnowledge) (past : ClientView) (replies : List ℕ) → past.number ≡ number → IsPrefix replies (replies_of past.part)
      → slice_get notes 0 ≡ Some note → IsDurableAt answers begins covers desk knows place note past → AreToldDurably answers begins queue notes number replies
  told_at number place notes note past replies same told of_sink at =
      let durable = prefix_through (queue at.state.1).seat.seen at.taken.seen note.durable at.covered.seen at.durable in record {
        history = at.history;
        state = at.state;
        legal = at.legal;
        told = subst (λ (n : ℕ). IsPrefix replies (replies_of (part_of n at.history))) same (prefix_through replies _ _ told (replies_begin past.part (part_of past.number at.history) at.own));
        note = note;
        of_sink = of_sink;
        journal = at.journal ∙ at.covered.journal;
        durable = durable;
        records = taken_begin (queue at.state.1) at.taken note.durable at.covered durable;
      }

  told_behind : (number : ℕ) (journal : K) (notes : List NoteKnowledge) (past : ClientView) (replies : List ℕ) → past.number ≡ number → IsPrefix replies (replies_of past.part)
      → AreDurable answers begins covers desk knows (journal ∷ []) notes past → AreToldDurably answers begins queue notes number replies
  told_behind number journal notes past replies same told durable =
      let first = durable 0 journal refl in told_at number (desk journal) notes first.0 past replies same told first.1 first.2

  pub told_durably : (journal : K) (notes : List NoteKnowledge) (written last : List ℕ) (v : ClientView) → LetGoBefore answers begins covers name desk knows any Always (journal ∷ []) notes written v last
      → IsToldDurably answers begins queue notes v.number written last
  told_durably journal notes written last v gone = record {
    replies = gone.0;
    rest = gone.1;
    both = gone.2;
    is_last = gone.3;
    durable = durably gone.4.may_go;
  }
    where
      durably : (gone.0 ≡ []) ⊎ AreDurable answers begins covers desk knows (journal ∷ []) notes gone.4.known_then → (gone.0 ≡ []) ⊎ AreToldDurably answers begins queue notes v.number gone.0
      durably (inl none) = inl none
      durably (inr durable) = inr (told_behind v.number journal notes gone.4.known_then gone.0 (sym gone.4.goes_on.number) gone.4.told durable)
