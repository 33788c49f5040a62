-- What a worker finds to run, where a new task's ticket goes, and the outcome of one that has run.
use Rattle.std.specs.Prelude.{◌≡◌, ◌⊎◌, ℕ, List, [], ◌∷◌, ◌++◌, Option, Some, None, length}
use Rattle.helpers.specs.declared.spawner.SpawnRecord.{SpawnRecord}
use Rattle.credit_book.specs.declared.task.Outcome.{Outcome}
use Rattle.credit_book.specs.declared.task.Ticket.{Ticket}
use Rattle.credit_book.specs.Books.{BookState, spawn_event, ticket_of}
use Rattle.credit_book.specs.History.{table_of}
use Rattle.lanes.specs.Interleaving.{RefusesTicket}
use Rattle.lanes.specs.Plain.{ticket_data}
use Rattle.lanes.specs.Sharing.{IsIdle, IsTaken, Moved, Puts}
use Rattle.workers.specs.AtDesk.{HasMore, IsParked}

-- The ticket is of a lane, or was parked where the worker's own lane had none. It is the task whose
-- turn it is.
abbrev pub Finds : Moved → Option Ticket → Moved → ℕ → Type 0
Finds old (Some ticket) new turn =
    (turn ≡ ticket.number) × (IsTaken ticket_data old ticket new ⊎ IsIdle ticket_data old new)
Finds old None new turn = IsIdle ticket_data old new

-- into the worker's own lane, or, where there was no room for it, elsewhere; no lane lost anything
-- by it
abbrev pub IsKept : Moved → Ticket → Moved → Type 0
IsKept old ticket new = Puts ticket_data old (ticket ∷ []) new ⊎ (new ≡ old)

-- the ticket of this child, whatever its number in its job
pub record IsHanded (old : Moved) (child : SpawnRecord) (new : Moved) : Type 0 where
  pub job : ℕ
  pub number : ℕ
  pub kept : IsKept old (ticket_of job number child) new

-- into the worker's own lane, and the desk is as it was; or, where that refuses it, it is parked at
-- the desk, and the lanes are as they were
abbrev pub IsKeptBeside : Moved → BookState → Ticket → Moved → BookState → Type 0
IsKeptBeside lanes desk ticket lanes_after desk_after =
    (Puts ticket_data lanes (ticket ∷ []) lanes_after × (desk_after ≡ desk))
    ⊎ (RefusesTicket ticket_data lanes.own.next lanes.own.moved × (lanes_after ≡ lanes)
    × IsParked desk ticket desk_after)

-- The book at the desk has this child, whose parent is the task whose turn it is. Its ticket is
-- kept.
pub record IsHandedAt (turn : ℕ) (child : SpawnRecord) (lanes : Moved) (desk : BookState)
    (lanes_after : Moved) (desk_after : BookState) : Type 0 where
  pub spawned : BookState
  pub waiting : spawned.waiting ≡ desk.waiting
  pub event : HasMore desk
      (spawn_event turn (length (table_of desk.history).standings) child) spawned
  pub kept : IsKeptBeside lanes spawned
      (ticket_of desk.board.job (length (table_of desk.history).standings) child)
      lanes_after desk_after

-- behind those that are held back, or to the book, with all of them
abbrev pub IsHeldBack : List Outcome → Outcome → List Outcome → Type 0
IsHeldBack old outcome new = (new ≡ old ++ outcome ∷ []) ⊎ (new ≡ [])
