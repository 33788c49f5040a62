-- What lies under a job's lock.
use Rattle.std.specs.Prelude.{◌≡◌, ◌↔◌, ℕ, List, [], ◌∷◌, map, Option, None, true}
use Rattle.credit_book.specs.declared.task.Ticket.{Ticket}
use Rattle.credit_book.specs.Books.{BookState}
use Rattle.credit_book.specs.History.{is_fresh, standing_at, table_of}
use Rattle.task_register.specs.declared.seats.SeatedTask.{SeatedTask}
use Rattle.task_register.specs.declared.seats.TaskResult.{TaskResult}
use Rattle.task_register.specs.Handing.{IsSeatOf}
use Rattle.task_register.specs.Rule.{EachIs}
use Rattle.job_answer.specs.OneAnswer.{IsWholeRun}
use Rattle.workers.specs.declared.locked_book.SpawnRefused.{SpawnRefused}

-- the seats are those of the tickets of this job, in this order
abbrev pub AreSeats : ℕ → List Ticket → List SeatedTask → Type 0
AreSeats job [] [] = Unit {0}
AreSeats job [] (s ∷ ss) = ⊥
AreSeats job (t ∷ ts) [] = ⊥
AreSeats job (t ∷ ts) (s ∷ ss) = IsSeatOf t s × (t.job ≡ job) × AreSeats job ts ss

-- the tickets that wait are those of the tasks that are parked, in the order of parking
abbrev pub AreQueued : BookState → Type 0
AreQueued book = (table_of book.history).queue ≡ map (λ t. t.number) book.waiting

-- the task of this number was just spawned: its ticket was not parked yet
abbrev pub IsJustSpawned : BookState → ℕ → Type 0
IsJustSpawned book number = is_fresh (standing_at (table_of book.history) number).stage ≡ true

-- a refusal is told just where one of the tasks that are over isn't whole
abbrev pub TellsSpawnRefusal : Option SpawnRefused → List TaskResult → Type 0
TellsSpawnRefusal refused over = (refused ≡ None) ↔ EachIs IsWholeRun over
