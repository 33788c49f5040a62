-- The one answer of a job on threads.
use Rattle.std.specs.Prelude.{◌≡◌, ℕ, ◌+◌, ◌≤◌, Bool, true, false, List, [], map, length, replicate, slice_get, Some}
use Rattle.std.specs.List.Sorted.{IsPermutation}
use Rattle.machine_model.specs.Machine.{Program}
use Rattle.task_trees.specs.Eval.{Finished}
use Rattle.task_trees.specs.Answer.{RootComes, joined_bytes, spent_in}
use Rattle.credit_book.specs.declared.event.TaskEnd.{TaskEnd}
use Rattle.credit_book.specs.declared.book.Report.{Report}
use Rattle.task_register.specs.declared.seats.TaskResult.{TaskResult}
use Rattle.job_answer.specs.SpawnTree.{TaskRun, IsSpawnTree, NoneRefused, finished_run}
use Rattle.job_answer.specs.Agreement.{shares}
use Rattle.job_answer.specs.Gathered.{RanByItself, laid}

-- the task wasn't run, and so isn't whole: it spent nothing, has no child, and left its bytes as
-- they were
pub record IsNotRun (o : TaskResult) : Type 0 where
  pub used : o.used ≡ 0
  pub r0 : o.r0 ≡ 0
  pub base : o.base ≡ o.own.birth.base
  pub bytes : o.bytes ≡ o.own.birth.bytes
  pub children : o.own.children ≡ []
  pub whole : o.whole ≡ false

abbrev pub runs_by : Bool → List Program → TaskResult → Type 0
runs_by true programs o = RanByItself programs o
runs_by false programs o = IsNotRun o

-- what holds of a task that is over: it ran by itself on what it was started with, or not at all
abbrev pub RunsOrNot : List Program → TaskResult → Type 0
RunsOrNot programs o = runs_by o.ran programs o

-- a task that is over spent no more than it was given, but for what it gave its children
abbrev pub IsPaidFor : TaskResult → Type 0
IsPaidFor o = o.used + shares o.own.children ≤ o.own.birth.share

abbrev pub AllRan : Report → Type 0
AllRan report = (n : ℕ) (e : TaskEnd) → slice_get report.tasks.items n ≡ Some e → e.ran ≡ true

-- The report says this of the run of this number, and that it ran. What it spent and returned is
-- what the task held at its end.
pub record IsToldAs (n : ℕ) (t : TaskRun) (e : TaskEnd) : Type 0 where
  pub number : e.number ≡ n
  pub program : e.program ≡ t.birth.program
  pub arg : e.arg ≡ t.birth.arg
  pub given : e.given ≡ t.birth.share
  pub spent : e.spent ≡ t.last.used
  pub r0 : e.r0 ≡ t.r0
  pub rest : e.spent + e.rest ≡ t.last.held
  pub ran : e.ran ≡ true

-- The report tells of tasks that agree from parent to child, each of which ran by itself, and its
-- buffer is what they left, in the order of their ends. Where none of them was refused a spawn they
-- are what the root comes to, in some order, and the report's buffer and the credit spent are those
-- of this answer.
pub record HasOneAnswer (programs : List Program) (credit : ℕ) (buffer : List ℕ) (report : Report) :
    Type 0 where
  pub parents : List ℕ
  pub tasks : List TaskRun
  pub family : IsSpawnTree programs credit buffer parents tasks
  pub count : length report.tasks.items ≡ length tasks
  pub told : (n : ℕ) (t : TaskRun) → slice_get tasks n ≡ Some t → (e : TaskEnd)
      × (slice_get report.tasks.items n ≡ Some e) × IsToldAs n t e
  pub ended : List Finished
  pub order : IsPermutation ended (map finished_run tasks)
  pub left : report.buffer.items ≡ laid (replicate (length buffer) 0) ended
  pub answer : NoneRefused tasks → (fs : List Finished) × RootComes programs credit buffer fs
      × IsPermutation (map finished_run tasks) fs
      × (report.buffer.items ≡ joined_bytes (length buffer) fs) × (report.spent ≡ spent_in fs)

-- no spawn of the task was refused, and it ran
abbrev pub IsWholeRun : TaskResult → Type 0
IsWholeRun o = o.whole ≡ true

-- The report tells the job's one answer: each task ran, and none was refused a spawn.
pub record IsJobAnswer (programs : List Program) (credit : ℕ) (buffer : List ℕ) (report : Report) :
    Type 0 where
  pub one : HasOneAnswer programs credit buffer report
  pub whole : NoneRefused one.tasks

-- what a task came to, whatever its number: what it was started with, what it spent and returned, R0
pub record TaskRow : Type 0 where
  pub program : ℕ
  pub arg : ℕ
  pub given : ℕ
  pub spent : ℕ
  pub rest : ℕ
  pub r0 : ℕ

abbrev pub row_of_end : TaskEnd → TaskRow
row_of_end e = record {
  program = e.program;
  arg = e.arg;
  given = e.given;
  spent = e.spent;
  rest = e.rest;
  r0 = e.r0;
}

abbrev pub row_of_finished : Finished → TaskRow
row_of_finished f = record {
  program = f.ending.program;
  arg = f.ending.arg;
  given = f.ending.given;
  spent = f.ending.spent;
  rest = f.ending.rest;
  r0 = f.ending.r0;
}

-- the report says just what the root comes to: its buffer, the credit spent, and each task once
pub record TellsAnswer (size : ℕ) (report : Report) (fs : List Finished) : Type 0 where
  pub buffer : report.buffer.items ≡ joined_bytes size fs
  pub spent : report.spent ≡ spent_in fs
  pub tasks : IsPermutation (map row_of_end report.tasks.items) (map row_of_finished fs)
