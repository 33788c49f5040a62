-- What the tasks that ended leave in the job's buffer.
use Rattle.std.specs.Prelude.{◌≡◌, ℕ, List, [], ◌∷◌, length, take, replicate}
use Rattle.machine_model.specs.Memory.{written}
use Rattle.credit_book.specs.declared.event.Event.{Event}
use Rattle.credit_book.specs.declared.event.Event.TheVariants.{Open, Spawn, Park, Claim, End}

-- an end's bytes are written at their base; what would lie past the buffer's end is left out
abbrev pub left_by : List ℕ → Event → List ℕ
left_by buffer (Open job issued) = buffer
left_by buffer (Spawn parent child program share arg base len) = buffer
left_by buffer (Park n) = buffer
left_by buffer (Claim n) = buffer
left_by buffer (End n used r0 ran base bytes) = take (length buffer) (written buffer base bytes)

abbrev pub buffer_from : List ℕ → List Event → List ℕ
buffer_from buffer [] = buffer
buffer_from buffer (e ∷ es) = buffer_from (left_by buffer e) es

-- so many zeros, with each end's bytes written in its turn
abbrev pub buffer_of : ℕ → List Event → List ℕ
buffer_of size history = buffer_from (replicate size 0) history

-- the buffer is what the history leaves in it
abbrev pub IsLeftBuffer : List ℕ → List Event → Type 0
IsLeftBuffer buffer history = buffer ≡ buffer_of (length buffer) history
