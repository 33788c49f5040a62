-- What lies under a job's lock: its register of starts, beside the history and the table of its book.
use Rattle.std.specs.Prelude.{◌≡◌, ◌==◌, ℕ, ◌+◌, ◌<◌, List, cond, drop, length, replicate, slice_get, slice_index_or, sum_by, true, false, Some}
use Rattle.std.specs.List.{count_by}
use Rattle.credit_book.specs.declared.event.Event.{Event}
use Rattle.credit_book.specs.declared.event.Standing.{Standing}
use Rattle.credit_book.specs.declared.event.TaskEnd.{TaskEnd}
use Rattle.credit_book.specs.declared.event.Stage.TheVariants.{Ended}
use Rattle.credit_book.specs.History.{TaskTable, is_alive, standing_at, table_of, task_at}
use Rattle.credit_book.specs.Buffers.{buffer_of}
use Rattle.task_register.specs.declared.seats.TaskStart.{TaskStart}
use Rattle.task_register.specs.declared.seats.TaskResult.{TaskResult}
use Rattle.task_register.specs.declared.seats.RegisterState.{RegisterState}
use Rattle.task_register.specs.Rule.{children_in}
use Rattle.job_answer.specs.Gathered.{numbers_to, laid_from}

abbrev pub ended_standing : Standing
ended_standing = record { held = 0; stage = Ended }

-- 1 for a task that is alive, else 0
abbrev pub alive_at : List Standing → ℕ → ℕ
alive_at standings n = cond (is_alive (slice_index_or standings n ended_standing).stage) 1 0

-- the task of this number was started so
pub record ReportsStart (n : ℕ) (b : TaskStart) (e : TaskEnd) : Type 0 where
  pub number : e.number ≡ n
  pub program : e.program ≡ b.program
  pub arg : e.arg ≡ b.arg
  pub given : e.given ≡ b.share

-- it ended so
pub record EndsSo (tasks : List TaskEnd) (o : TaskResult) : Type 0 where
  pub end : TaskEnd
  pub there : slice_get tasks o.own.number ≡ Some end
  pub spent : end.spent ≡ o.used
  pub r0 : end.r0 ≡ o.r0
  pub ran : end.ran ≡ o.ran

-- the credit of these tasks at their starts, together
abbrev pub shares : List TaskStart → ℕ
shares starts = sum_by (λ b. b.share) starts

-- A task was given this much. That is what its children were given, with what it holds, or, once it
-- is over, with what it spent and returned.
pub record Balances (given children : ℕ) (s : Standing) (e : TaskEnd) : Type 0 where
  pub alive : is_alive s.stage ≡ true → s.held + children ≡ given
  pub over : is_alive s.stage ≡ false → e.spent + e.rest + children ≡ given

-- The book has the tasks of the register, those that are over have ended as it says, and each task
-- is either alive or over, once. No credit of a task is lost, and each task after the first has an
-- older parent.
pub record AgreesWith (known : RegisterState) (t : TaskTable) : Type 0 where
  pub long : length t.tasks ≡ length known.starts
  pub paired : length t.standings ≡ length known.starts
  pub told : (n : ℕ) (b : TaskStart) → slice_get known.starts n ≡ Some b → (e : TaskEnd)
      × (slice_get t.tasks n ≡ Some e) × ReportsStart n b e
  pub ended : (k : ℕ) (o : TaskResult) → slice_get known.over k ≡ Some o → EndsSo t.tasks o
  pub counted : (n : ℕ) → count_by (λ (o : TaskResult). o.own.number == n) known.over
      + alive_at t.standings n ≡ count_by (λ (k : ℕ). k == n) (numbers_to (length known.starts))
  pub balanced : (n : ℕ) (b : TaskStart) → slice_get known.starts n ≡ Some b
      → Balances b.share (shares (children_in n known.starts)) (standing_at t n) (task_at t n)
  pub older : (k : ℕ) (b : TaskStart) → slice_get (drop 1 known.starts) k ≡ Some b
      → b.parent < length known.starts

-- the same of a history, whose ends left what the tasks that are over left
pub record RegisterAgrees (known : RegisterState) (history : List Event) : Type 0 where
  pub table : AgreesWith known (table_of history)
  pub left : (size : ℕ) → buffer_of size history ≡ laid_from (replicate size 0) known.over
