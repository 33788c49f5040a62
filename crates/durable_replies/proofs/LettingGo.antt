-- What may go out behind a commit, and behind one that failed.
use Rattle.std.proofs.Common.{◌≡◌, ◌⊎◌, ◌<◌, inl, inr, ℕ, List, [], ◌∷◌, ◌++◌, length, take, drop, Result, Ok, Err, refl, sym, ap, ◌∙◌, append_assoc, append-nil}
use Rattle.std.specs.Prelude.{OnErr, OnOk}
use Rattle.std.proofs.lemmas.List.{take-append-drop}
use mathlib.Core.List.{IsPrefix}
use Rattle.shared_desk.specs.Answered.{IsSharedAnswer, entry_for}
use Rattle.shared_desk.specs.ClientViews.{ClientView, Extends}
use Rattle.shared_desk.specs.Histories.{HistoryEntry, Query, replies_of}
use Rattle.shared_desk.proofs.Parts.{prefix_self}
use Rattle.shared_desk.proofs.WholeStream.{extends_none, replies_one}
use Rattle.shared_journal.specs.JournalHistories.{JournalName, NoteKnowledge}
use Rattle.shared_journal.specs.declared.reply_sync.ReplySync.{ReplySync}
use Rattle.durable_replies.specs.Durable.{LetGoAhead, LetGoBefore, MayGoOut}

-- a connection that is answered once more
goes_further : {S : Type 0} (answers : S → Query → List ℕ → S → Type 0) (begins : S → Type 0) (past v w : ClientView) (later : List HistoryEntry) (asked : Query) (reply : List ℕ)
    → Extends past later v → IsSharedAnswer answers begins v asked reply w → Extends past (later ++ entry_for v asked reply ∷ []) w
goes_further answers begins past v w later asked reply before answer =
    let e = entry_for v asked reply in
    let t = before.seen.0 in
    record {
      number = answer.number ∙ before.number;
      seen = (
        (t ++ answer.between) ++ e ∷ [],
        sym (append_assoc past.seen (t ++ answer.between) (e ∷ [])) ∙ ap (λ (l : List HistoryEntry). l ++ e ∷ []) (sym (append_assoc past.seen t answer.between) ∙ ap (λ (l : List HistoryEntry). l ++ answer.between) before.seen.1)
            ∙ sym answer.seen,
      );
      more = answer.more ∙ ap (λ (l : List HistoryEntry). l ++ e ∷ []) before.more ∙ append_assoc past.part later (e ∷ []);
    }

module _ {D H N K : Type 0} (answers : D × H → Query → List ℕ → D × H → Type 0) (begins : D × H → Type 0) (covers : ℕ → N → H → Type 0) (name : K → JournalName) (desk : K → ℕ) (known : N → NoteKnowledge) (sound : N → Type 0)
    (sync : ReplySync) (journals : List K) where
  -- behind a commit all that was answered may go out
  pub goes_out : (notes : List N) (v : ClientView) (written rest : List ℕ) → MayGoOut answers begins covers name desk known sound sync journals notes v → written ++ rest ≡ replies_of v.part
      → LetGoAhead answers begins covers name desk known sound sync journals notes written v rest
  goes_out notes v written rest may all =
      (record { known_then = v; later = []; goes_on = extends_none v; told = (rest, all); may_go = inr may }, all)

  -- before anything was answered or written
  pub goes_at_first : (notes : List N) (v : ClientView) (written : List ℕ) → written ≡ [] → v.part ≡ [] → LetGoAhead answers begins covers name desk known sound sync journals notes written v []
  goes_at_first notes v written none fresh = (
    record {
      known_then = v;
      later = [];
      goes_on = extends_none v;
      told = (replies_of v.part, ap (λ (l : List ℕ). l ++ replies_of v.part) none);
      may_go = inl none;
    },
    append-nil written ∙ none ∙ sym (ap replies_of fresh),
  )

  -- these bytes more
  pub all_go_out : (notes before : List N) (v : ClientView) (written bytes rest after : List ℕ) → MayGoOut answers begins covers name desk known sound sync journals notes v
      → after ≡ written ++ bytes → LetGoAhead answers begins covers name desk known sound sync journals before written v (bytes ++ rest) → LetGoAhead answers begins covers name desk known sound sync journals notes after v rest
  all_go_out notes before v written bytes rest after may is ahead =
      goes_out notes v after rest may (ap (λ (l : List ℕ). l ++ rest) is ∙ append_assoc written bytes rest ∙ ahead.1)

  -- a beginning of them
  pub some_go_out : (notes before : List N) (v : ClientView) (written bytes rest after : List ℕ) (n : ℕ) → MayGoOut answers begins covers name desk known sound sync journals notes v
      → after ≡ written ++ take n bytes → LetGoAhead answers begins covers name desk known sound sync journals before written v (bytes ++ rest)
      → (left : List ℕ) × LetGoAhead answers begins covers name desk known sound sync journals notes after v left
  some_go_out notes before v written bytes rest after n may is ahead =
      let cut : take n bytes ++ (drop n bytes ++ rest) ≡ bytes ++ rest = sym (append_assoc (take n bytes) (drop n bytes) rest) ∙ ap (λ (l : List ℕ). l ++ rest) (take-append-drop n bytes) in (
        drop n bytes ++ rest,
        goes_out notes v after (drop n bytes ++ rest) may
            (ap (λ (l : List ℕ). l ++ (drop n bytes ++ rest)) is ∙ append_assoc written (take n bytes) (drop n bytes ++ rest) ∙ ap (λ (l : List ℕ). written ++ l) cut ∙ ahead.1),
      )

  -- where a commit failed, what had gone out before still may
  pub stays_out : (notes before : List N) (v : ClientView) (written waits : List ℕ)
      → ((past : ClientView) (later : List HistoryEntry) → Extends past later v → MayGoOut answers begins covers name desk known sound sync journals before past → MayGoOut answers begins covers name desk known sound sync journals notes past)
      → LetGoAhead answers begins covers name desk known sound sync journals before written v waits → LetGoAhead answers begins covers name desk known sound sync journals notes written v waits
  stays_out notes before v written waits kept ahead = (
    record {
      known_then = ahead.0.known_then;
      later = ahead.0.later;
      goes_on = ahead.0.goes_on;
      told = ahead.0.told;
      may_go = still ahead.0.may_go;
    },
    ahead.1,
  )
    where
      still : (written ≡ []) ⊎ MayGoOut answers begins covers name desk known sound sync journals before ahead.0.known_then → (written ≡ []) ⊎ MayGoOut answers begins covers name desk known sound sync journals notes ahead.0.known_then
      still (inl none) = inl none
      still (inr may) = inr (kept ahead.0.known_then ahead.0.later ahead.0.goes_on may)

  -- bytes that are no reply follow, or a beginning of them
  pub goes_before : {A E : Type 0} (written_last : Result A E) (notes : List N) (v : ClientView) (written waits last after : List ℕ) → OnOk written_last (after ≡ written ++ last)
      → OnErr written_last ((n : ℕ) × (n < length last) × (after ≡ written ++ take n last)) → LetGoAhead answers begins covers name desk known sound sync journals notes written v waits
      → LetGoBefore answers begins covers name desk known sound sync journals notes after v last
  goes_before (Ok x) notes v written waits last after all part ahead = (written, last, all, prefix_self last, ahead.0)
  goes_before (Err x) notes v written waits last after all part ahead = (written, take part.0 last, part.2, (drop part.0 last, take-append-drop part.0 last), ahead.0)

  -- one more reply waits
  pub replies_wait : (notes : List N) (written : List ℕ) (v w : ClientView) (waits : List ℕ) (asked : Query) (reply : List ℕ) → LetGoAhead answers begins covers name desk known sound sync journals notes written v waits
      → IsSharedAnswer answers begins v asked reply w → LetGoAhead answers begins covers name desk known sound sync journals notes written w (waits ++ reply)
  replies_wait notes written v w waits asked reply ahead answer = (
    record {
      known_then = ahead.0.known_then;
      later = ahead.0.later ++ entry_for v asked reply ∷ [];
      goes_on = goes_further answers begins ahead.0.known_then v w ahead.0.later asked reply ahead.0.goes_on answer;
      told = ahead.0.told;
      may_go = ahead.0.may_go;
    },
    sym (append_assoc written waits reply) ∙ ap (λ (l : List ℕ). l ++ reply) ahead.1 ∙ sym (replies_one v.part (entry_for v asked reply)) ∙ ap replies_of (sym answer.more),
  )
