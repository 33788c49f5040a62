-- How a conversation ends within its frames.
use Rattle.std.proofs.Common.{◌≡◌, ℕ, List, sym, subst}
use Rattle.sessions.specs.Frames.{front, too_large, whole}
use Rattle.streams.specs.Serves.{Serves}
use Rattle.streams.specs.Stops.{IsStarved, ahead_of_reply, between}
use Rattle.conversation.specs.declared.ended.Ended.{Ended}
use Rattle.conversation.specs.declared.ended.Ended.TheVariants.{TooLarge, NoMemory}
use Rattle.conversation.specs.Endings.{IsEnded, IsRefused}

-- a length over the limit comes next
pub ends_at_length : {S : Type 0} (ended : Ended) (answers : S → List ℕ → List ℕ → S → Type 0) (start : S) (bytes before : List ℕ) (count : ℕ) (end : S) (left out after : List ℕ) →
    Serves answers start bytes before count end left out → front left ≡ too_large → IsRefused ended out after → IsEnded ended answers start bytes before end after
ends_at_length TooLarge answers start bytes before count end left out after served first is = (count, left, out, served, first, is)
ends_at_length NoMemory answers start bytes before count end left out after served first is =
    let P : List ℕ → Type 0 = λ o. IsStarved answers start bytes before end o in
    subst P (sym is) (between count end left out served)

-- the reply to a frame that was heard is lost
pub starved_at_reply : {S : Type 0} (answers : S → List ℕ → List ℕ → S → Type 0) (start : S) (bytes before : List ℕ) (count : ℕ) (s : S) (left out payload rest reply : List ℕ) (t : S) (after : List ℕ) →
    Serves answers start bytes before count s left out → front left ≡ whole payload rest → answers s payload reply t → after ≡ out → IsStarved answers start bytes before t after
starved_at_reply answers start bytes before count s left out payload rest reply t after served first answer is =
    let P : List ℕ → Type 0 = λ o. IsStarved answers start bytes before t o in
    subst P (sym is) (ahead_of_reply count s left out payload rest reply t served first answer)
