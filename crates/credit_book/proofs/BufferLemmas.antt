-- The buffer that a history leaves, with one event more.
use Rattle.std.proofs.Common.{◌≡◌, ℕ, List, [], ◌∷◌, ◌++◌, length, take, replicate, refl, sym, ap, ◌∙◌, arith}
use Rattle.std.proofs.lemmas.Grind.{common_steps}
use Rattle.machine_model.specs.Memory.{written}
use Rattle.credit_book.specs.declared.event.Event.{Event}
use Rattle.credit_book.specs.declared.task.Outcome.{Outcome}
use Rattle.credit_book.specs.Books.{end_event}
use Rattle.credit_book.specs.Buffers.{left_by, buffer_from, buffer_of, IsLeftBuffer}

pub buffer_from-push : (buffer : List ℕ) (es : List Event) (e : Event) → buffer_from buffer (es ++ e ∷ []) ≡ left_by (buffer_from buffer es) e
buffer_from-push buffer [] e = refl
buffer_from-push buffer (x ∷ xs) e = buffer_from-push (left_by buffer x) xs e

-- an event that leaves the buffer as it is
pub collected-quiet : (buffer : List ℕ) (h h' : List Event) (e : Event) → IsLeftBuffer buffer h → left_by (buffer_of (length buffer) h) e ≡ buffer_of (length buffer) h → h' ≡ h ++ e ∷ []
    → IsLeftBuffer buffer h'
collected-quiet buffer h h' e is quiet same =
    is ∙ sym (ap (buffer_of (length buffer)) same ∙ buffer_from-push (replicate (length buffer) 0) h e ∙ quiet)

length-left : (buffer : List ℕ) (base : ℕ) (bytes : List ℕ) → length (take (length buffer) (written buffer base bytes)) ≡ length buffer
length-left buffer base bytes = grind (arith, common_steps)

-- the end of an outcome, whose bytes are collected
pub collected-end : (buffer buffer' : List ℕ) (h h' : List Event) (o : Outcome) → IsLeftBuffer buffer h → buffer' ≡ take (length buffer) (written buffer o.part.base o.part.bytes)
    → h' ≡ h ++ end_event o ∷ [] → IsLeftBuffer buffer' h'
collected-end buffer buffer' h h' o is now same =
    let long : length buffer' ≡ length buffer = ap length now ∙ length-left buffer o.part.base o.part.bytes in
    let here : buffer' ≡ left_by (buffer_of (length buffer) h) (end_event o) = now ∙ ap (λ (b : List ℕ). left_by b (end_event o)) is in
    here ∙ sym (ap (λ n. buffer_of n h') long ∙ ap (buffer_of (length buffer)) same ∙ buffer_from-push (replicate (length buffer) 0) h (end_event o))

pub length-collected : (buffer buffer' : List ℕ) (o : Outcome) → buffer' ≡ take (length buffer) (written buffer o.part.base o.part.bytes) → length buffer' ≡ length buffer
length-collected buffer buffer' o now = ap length now ∙ length-left buffer o.part.base o.part.bytes
