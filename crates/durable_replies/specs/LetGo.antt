-- What waits isn't written.
use Rattle.std.specs.Prelude.{◌≡◌, ℕ, List, [], ◌++◌}
use Rattle.std.proofs.Common.{refl, sym, append-nil}
use Rattle.shared_desk.specs.ClientViews.{ClientView}
use Rattle.shared_desk.specs.Histories.{Query}
use Rattle.shared_journal.specs.JournalHistories.{JournalName, NoteKnowledge}
use Rattle.shared_journal.specs.declared.reply_sync.ReplySync.{ReplySync}
use Rattle.durable_replies.specs.Durable.{LetGoAhead, LetGoBefore}

module _ {D H N K : Type 0} (answers : D × H → Query → List ℕ → D × H → Type 0) (begins : D × H → Type 0) (covers : ℕ → N → H → Type 0) (name : K → JournalName) (desk : K → ℕ) (known : N → NoteKnowledge) (sound : N → Type 0)
    (sync : ReplySync) (journals : List K) (notes : List N) (written : List ℕ) where
  -- what waits isn't written
  pub replies_are_written : (v : ClientView) (waits last : List ℕ) → LetGoAhead answers begins covers name desk known sound sync journals notes written v waits
      → LetGoBefore answers begins covers name desk known sound sync journals notes written v last
  replies_are_written v waits last ahead = (written, [], sym (append-nil written), (last, refl), ahead.0)
