-- What contracts see of a book, and what its fields keep.
use Rattle.std.specs.Prelude.{◌≡◌, ℕ, ◌<◌, ◌≤◌, true, List, ◌++◌, length}
use Rattle.credit_book.specs.declared.event.Event.{Event}
use Rattle.credit_book.specs.declared.event.Event.TheVariants.{Spawn, End}
use Rattle.credit_book.specs.declared.event.Standing.{Standing}
use Rattle.credit_book.specs.declared.event.TaskEnd.{TaskEnd}
use Rattle.credit_book.specs.declared.fault.BookFault.{BookFault}
use Rattle.credit_book.specs.declared.fault.BookFault.TheVariants.{Stranger, OverSpent, CreditLow, NoMemory}
use Rattle.credit_book.specs.declared.task.Ticket.{Ticket}
use Rattle.helpers.specs.declared.spawner.SpawnRecord.{SpawnRecord}
use Rattle.credit_book.specs.declared.task.Outcome.{Outcome}
use Rattle.credit_book.specs.declared.book.Report.{Report}
use Rattle.helpers.specs.Piece.{Piece}
use Rattle.credit_book.specs.Boards.{Sign}
use Rattle.credit_book.specs.Buffers.{buffer_of}
use Rattle.credit_book.specs.Quiet.{NoEnd}
use Rattle.credit_book.specs.History.{May, table_of, IsHistoryOf, spent_in, returned_in, board_word, standing_at, is_fresh, may_work}

-- the job's board, its history, the length of its buffer, and the tickets that are parked now, the
-- first parked first
pub record BookState : Type 0 where
  pub board : Sign
  pub history : List Event
  pub size : ℕ
  pub waiting : List Ticket

-- what the book's fields are, by its history
pub record IsBook (board : Sign) (history : List Event) (standings : List Standing)
    (tasks : List TaskEnd) (queue : List ℕ) (spent returned : ℕ) : Type 0 where
  pub legal : IsHistoryOf board.job board.issued history
  pub table : table_of history ≡ record { standings = standings; tasks = tasks; queue = queue }
  pub spent_is : spent ≡ spent_in (table_of history)
  pub returned_is : returned ≡ returned_in (table_of history)

-- the history begins with what is posted, which no end follows, and the word is that of the history
abbrev pub IsPosted : List Event → List Event → Type 0
IsPosted posted history = (later : List Event) × (history ≡ posted ++ later) × NoEnd later
    × (board_word history ≡ board_word posted)

-- the events of the calls
abbrev pub spawn_event : ℕ → ℕ → SpawnRecord → Event
spawn_event parent child r =
    Spawn parent child r.program r.share r.arg r.part.base (length r.part.bytes)

abbrev pub end_event : Outcome → Event
end_event o = End o.number o.used o.r0 o.ran o.part.base o.part.bytes

-- why an end is refused
abbrev pub IsEndFault : BookState → Outcome → BookFault → Type 0
IsEndFault a o Stranger =
    o.job ≡ a.board.job → ¬ (may_work (standing_at (table_of a.history) o.number).stage ≡ true)
IsEndFault a o OverSpent = (o.job ≡ a.board.job)
    × (may_work (standing_at (table_of a.history) o.number).stage ≡ true)
    × ((standing_at (table_of a.history) o.number).held < o.used)
IsEndFault a o CreditLow = ⊥
IsEndFault a o NoMemory = ⊥

-- why a spawn is refused; want of memory comes only where the spawn would be legal
abbrev pub IsSpawnFault : BookState → ℕ → SpawnRecord → BookFault → Type 0
IsSpawnFault a parent r Stranger =
    ¬ (may_work (standing_at (table_of a.history) parent).stage ≡ true)
IsSpawnFault a parent r OverSpent = ⊥
IsSpawnFault a parent r CreditLow =
    (may_work (standing_at (table_of a.history) parent).stage ≡ true)
    × (1 ≤ r.share → (standing_at (table_of a.history) parent).held ≤ r.share)
IsSpawnFault a parent r NoMemory =
    May (table_of a.history) (spawn_event parent (length (table_of a.history).standings) r)

abbrev pub ticket_of : ℕ → ℕ → SpawnRecord → Ticket
ticket_of job number r = record {
  job = job;
  number = number;
  program = r.program;
  held = r.share;
  arg = r.arg;
  part = r.part;
}

abbrev pub IsParkFault : BookState → Ticket → BookFault → Type 0
IsParkFault a t Stranger =
    t.job ≡ a.board.job → ¬ (is_fresh (standing_at (table_of a.history) t.number).stage ≡ true)
IsParkFault a t OverSpent = ⊥
IsParkFault a t CreditLow = ⊥
IsParkFault a t NoMemory = ⊥

abbrev pub root_ticket : ℕ → ℕ → Piece → Ticket
root_ticket job issued part =
    record { job = job; number = 0; program = 0; held = issued; arg = 0; part = part }

-- the report of this history of a job with so many bytes
pub record IsReport (size : ℕ) (history : List Event) (r : Report) : Type 0 where
  pub spent : r.spent ≡ spent_in (table_of history)
  pub returned : r.returned ≡ returned_in (table_of history)
  pub buffer : r.buffer.items ≡ buffer_of size history
  pub tasks : r.tasks.items ≡ (table_of history).tasks
