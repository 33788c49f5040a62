-- A ticket and the seat of its task.
use Rattle.std.specs.Prelude.{◌≡◌, ℕ, Bool, []}
use Rattle.credit_book.specs.declared.task.Outcome.{Outcome}
use Rattle.task_register.specs.declared.seats.TaskStart.{TaskStart}
use Rattle.task_register.specs.declared.seats.TaskResult.{TaskResult}
use Rattle.credit_book.specs.declared.task.Ticket.{Ticket}
use Rattle.task_register.specs.declared.seats.SeatedTask.{SeatedTask}

-- the seat is that of the ticket's task, which has no child yet
pub record IsSeatOf (ticket : Ticket) (seat : SeatedTask) : Type 0 where
  pub number : seat.number ≡ ticket.number
  pub program : seat.birth.program ≡ ticket.program
  pub share : seat.birth.share ≡ ticket.held
  pub arg : seat.birth.arg ≡ ticket.arg
  pub base : seat.birth.base ≡ ticket.part.base
  pub bytes : seat.birth.bytes ≡ ticket.part.bytes
  pub none : seat.children ≡ []

-- what the ticket's task is started with, by the task of this number
abbrev pub start_by : ℕ → Ticket → TaskStart
start_by parent t = record {
  parent = parent;
  program = t.program;
  share = t.held;
  arg = t.arg;
  base = t.part.base;
  bytes = t.part.bytes;
}

-- the task of the seat, over with this outcome, whole or not
abbrev pub ended_with : SeatedTask → Outcome → Bool → TaskResult
ended_with own o whole = record {
  own = own;
  used = o.used;
  r0 = o.r0;
  ran = o.ran;
  whole = whole;
  base = o.part.base;
  bytes = o.part.bytes;
}
