-- What a call at the desk leaves of the book under its lock. The book refuses none of them.
use Rattle.std.specs.Prelude.{◌≡◌, List, [], ◌∷◌, ◌++◌, Option, Some, None}
use Rattle.credit_book.specs.declared.event.Event.{Event}
use Rattle.credit_book.specs.declared.event.Event.TheVariants.{Park, Claim}
use Rattle.credit_book.specs.declared.task.Outcome.{Outcome}
use Rattle.credit_book.specs.declared.task.Ticket.{Ticket}
use Rattle.credit_book.specs.Books.{BookState, end_event}

-- the same book, to whose history this event has come
abbrev pub HasMore : BookState → Event → BookState → Type 0
HasMore old event new =
    (new.board ≡ old.board) × (new.size ≡ old.size) × (new.history ≡ old.history ++ event ∷ [])

-- the ticket waits behind the others
abbrev pub IsParked : BookState → Ticket → BookState → Type 0
IsParked old ticket new =
    (new.waiting ≡ old.waiting ++ ticket ∷ []) × HasMore old (Park ticket.number) new

-- the task has ended
abbrev pub IsTaskEnded : BookState → Outcome → BookState → Type 0
IsTaskEnded old outcome new = (new.waiting ≡ old.waiting) × HasMore old (end_event outcome) new

-- each of these tasks, in this order
abbrev pub AreTasksEnded : BookState → List Outcome → BookState → Type 0
AreTasksEnded old [] new = new ≡ old
AreTasksEnded old (outcome ∷ outcomes) new =
    (between : BookState) × IsTaskEnded old outcome between × AreTasksEnded between outcomes new

-- the ticket that waited first, and none where none waits
abbrev pub IsClaimed : BookState → Option Ticket → BookState → Type 0
IsClaimed old (Some ticket) new =
    (old.waiting ≡ ticket ∷ new.waiting) × HasMore old (Claim ticket.number) new
IsClaimed old None new = (old.waiting ≡ []) × (new ≡ old)
