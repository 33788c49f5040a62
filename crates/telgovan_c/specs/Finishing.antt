-- What C tells of a job that it ran for a desk.
use Rattle.std.specs.Prelude.{◌≡◌, ◌≢◌, ℕ, ◌<◌, ◌≤◌, ◌⊎◌, List, length, map, slice_get, Option, None, Some, Result, Ok, Err, IsSome, true}
use Rattle.std.specs.BTreeMap.{get}
use Rattle.std.specs.Ordering.{nat_cmp}
use Rattle.accounts.specs.Ledgers.{Finishes, IsNotOpen}
use Rattle.credit_book.specs.declared.book.Report.{Report}
use Rattle.credit_book.specs.declared.event.TaskEnd.{TaskEnd}
use Rattle.conversation.specs.declared.host_desk.HostDesk.{HostDesk}
use Rattle.telgovan_c.specs.declared.jobs.ReportedTask.{ReportedTask}
use Rattle.telgovan_c.specs.declared.jobs.JobReport.{JobReport}

-- a task that C tells; each counts as run
abbrev pub task_end_of : ReportedTask → TaskEnd
task_end_of task = record {
  number = task.number;
  program = task.program;
  arg = task.argument;
  given = task.given;
  spent = task.spent;
  rest = task.returned;
  r0 = task.r0;
  ran = true;
}

-- the place of a task's program is over its limit, or there is no memory
abbrev pub RefusesEnds : List ReportedTask → ℕ → Type 0
RefusesEnds tasks status =
    ((n : ℕ) × (task : ReportedTask) × (slice_get tasks n ≡ Some task) × (65535 < task.program)
    × (status ≡ 65)) ⊎ (status ≡ 99)

-- what the job came to: its report; or the number of what it failed by
pub data IsJobOutcome (told : JobReport) (buffer : List ℕ) (tasks : List ReportedTask) :
    Result Report ℕ → Type 0 where
  reported : (report : Report) → told.status ≡ 0 → report.spent ≡ told.spent
      → report.returned ≡ told.returned → report.buffer.items ≡ buffer
      → report.tasks.items ≡ map task_end_of tasks → IsJobOutcome told buffer tasks (Ok report)
  failed : told.status ≢ 0 → IsJobOutcome told buffer tasks (Err told.status)

-- or that isn't taken
pub data RefusesTold (told : JobReport) (tasks : List ReportedTask) (status : ℕ) : Type 0 where
  no_such_end : told.status ≡ 0 → RefusesEnds tasks status → RefusesTold told tasks status
  over_limit : 255 < told.status → status ≡ 65 → RefusesTold told tasks status

-- a job that was handed over is ended; or no such job is open, and nothing changes
pub data IsFinishedBy (old : HostDesk) (job : ℕ) (outcome : Result Report ℕ) (new : HostDesk)
    (status : ℕ) : Type 0 where
  finished : Finishes old.clerk.ledger job outcome new.clerk.ledger
      → get nat_cmp old.clerk.jobs.waiting job ≡ None → new.clerk.jobs ≡ old.clerk.jobs
      → new.conversations ≡ old.conversations → status ≡ 0
      → IsFinishedBy old job outcome new status
  no_job : (IsNotOpen old.clerk.ledger job ⊎ IsSome (get nat_cmp old.clerk.jobs.waiting job))
      → new.clerk.ledger ≡ old.clerk.ledger → new.clerk.jobs ≡ old.clerk.jobs
      → new.conversations ≡ old.conversations → status ≡ 76
      → IsFinishedBy old job outcome new status

-- with what C tells of it; or that isn't taken or there is no desk, and nothing changes
pub data FinishesJob (old : Option HostDesk) (job : ℕ) (told : JobReport) (buffer : List ℕ)
    (tasks : List ReportedTask) (new : Option HostDesk) (status : ℕ) : Type 0 where
  by_desk : (desk after : HostDesk) (outcome : Result Report ℕ) → old ≡ Some desk
      → new ≡ Some after → IsJobOutcome told buffer tasks outcome
      → IsFinishedBy desk job outcome after status
      → FinishesJob old job told buffer tasks new status
  refused : (desk : HostDesk) → old ≡ Some desk → new ≡ old → RefusesTold told tasks status
      → FinishesJob old job told buffer tasks new status
  no_desk : old ≡ None → new ≡ None → status ≡ 41
      → FinishesJob old job told buffer tasks new status
