-- The rule of a register of starts, and what its steps tell.
use Rattle.std.specs.Prelude.{◌≡◌, ◌≢◌, ◌==◌, ℕ, suc, ◌+◌, ◌*◌, ◌≤◌, true, false, List, [], ◌∷◌, ◌++◌, length, drop, slice_get, Some}
use Rattle.std.specs.List.{filter}
use mathlib.Core.Option.{some}
use lib.ListN.{get_elem?}
use Rattle.atomic_table.specs.Table.{Me, Step}
use Rattle.atomic_table.specs.Seated.{TableId}
use Rattle.task_register.specs.declared.seats.TaskStart.{TaskStart}
use Rattle.task_register.specs.declared.seats.SeatedTask.{SeatedTask}
use Rattle.task_register.specs.declared.seats.TaskResult.{TaskResult}
use Rattle.task_register.specs.declared.seats.RegisterState.{RegisterState}
use Rattle.task_register.specs.declared.seats.TaskView.{TaskView}

-- the name of no table
abbrev pub no_task_table : TableId
no_task_table = record {
  words = 0;
  slots = 0;
  views_name = 0;
  atom = 0;
  block = 0;
  offset = 0;
  slot_names = [];
}

-- ---- tasks

abbrev pub no_start : TaskStart
no_start = record { parent = 0; program = 0; share = 0; arg = 0; base = 0; bytes = [] }

abbrev pub no_seated_task : SeatedTask
no_seated_task = record { number = 0; birth = no_start; children = [] }

-- a task that has no child yet
abbrev pub fresh_task : ℕ → TaskStart → SeatedTask
fresh_task number birth = record { number = number; birth = birth; children = [] }

abbrev pub with_one_more : SeatedTask → TaskStart → SeatedTask
with_one_more o child = record o { children = o.children ++ child ∷ [] }

-- the children of a task, in the order of their numbers; the first of all tasks is nobody's child
abbrev pub children_in : ℕ → List TaskStart → List TaskStart
children_in number starts = filter (λ b. b.parent == number) (drop 1 starts)

-- the task was started so, and has just these children
pub record IsTask (starts : List TaskStart) (o : SeatedTask) : Type 0 where
  pub birth : slice_get starts o.number ≡ Some o.birth
  pub children : children_in o.number starts ≡ o.children

-- something holds of each of these
abbrev pub EachIs : (TaskResult → Type 0) → List TaskResult → Type 0
EachIs P [] = Unit {0}
EachIs P (o ∷ os) = P o × EachIs P os

-- ---- who sits where

abbrev pub empty_register : RegisterState
empty_register = record { starts = []; over = [] }

-- a seat that knows nothing
abbrev pub empty_task_view : TaskView
empty_task_view = record {
  is_keeper = false;
  known = empty_register;
  is_task = false;
  task = no_seated_task;
  has_child = false;
  child = no_seated_task;
  waiting = [];
}

-- the keeper's, with the tasks that wait
abbrev pub keeper_view : RegisterState → List SeatedTask → TaskView
keeper_view known waiting =
    record empty_task_view { is_keeper = true; known = known; waiting = waiting }

abbrev pub first_keeper_view : TaskView
first_keeper_view = keeper_view empty_register []

abbrev pub task_seat : SeatedTask → TaskView
task_seat o = record empty_task_view { is_task = true; task = o }

-- a seat that is that of a task too, or no more
abbrev pub with_task : TaskView → TaskView → TaskView
with_task v w = record v { is_task = w.is_task; task = w.task }

abbrev pub without_task : TaskView → TaskView
without_task v = record v { is_task = false; task = no_seated_task }

abbrev pub only_task : TaskView → TaskView
only_task v = record empty_task_view { is_task = v.is_task; task = v.task }

abbrev pub without_child : TaskView → TaskView
without_child v = record v { has_child = false; child = no_seated_task }

abbrev pub only_child : TaskView → TaskView
only_child v = record empty_task_view { is_task = v.has_child; task = v.child }

-- a seat that keeps one more task that waits, or one less: the first
abbrev pub with_waiting : TaskView → TaskView → TaskView
with_waiting v w = record v { waiting = v.waiting ++ w.task ∷ [] }

abbrev pub without_first_waiting : TaskView → TaskView
without_first_waiting v = record v { waiting = drop 1 v.waiting }

abbrev pub first_waiting : List SeatedTask → SeatedTask
first_waiting [] = no_seated_task
first_waiting (o ∷ os) = o

abbrev pub only_first : TaskView → TaskView
only_first v = record empty_task_view { is_task = true; task = first_waiting v.waiting }

-- ---- the rule

-- the place of the task of a seat, of a child of it that has no seat yet, and of tasks that wait
-- there; 0 is that of a task that is over
abbrev pub place_of_task : ℕ → ℕ
place_of_task seat = 3 * seat + 1

abbrev pub place_beside : ℕ → ℕ
place_beside seat = 3 * seat + 2

abbrev pub place_waiting : ℕ → ℕ
place_waiting seat = 3 * seat + 3

-- the task is known here
pub record IsHere (starts : List TaskStart) (at : ℕ → ℕ) (place : ℕ) (o : SeatedTask) : Type 0 where
  pub is_task : IsTask starts o
  pub here : at o.number ≡ place

-- what the view at a seat says is so
pub record FitsTaskRegister (keeper_at : ℕ) (known : RegisterState) (at : ℕ → ℕ) (seat : ℕ)
    (v : TaskView) :
    Type 0 where
  pub keeping : v.is_keeper ≡ true → (seat ≡ keeper_at) × (v.known ≡ known)
  pub sitting : v.is_task ≡ true → IsHere known.starts at (place_of_task seat) v.task
  pub bearing : v.has_child ≡ true → IsHere known.starts at (place_beside seat) v.child
  pub waiting : (k : ℕ) (o : SeatedTask) → slice_get v.waiting k ≡ Some o
      → IsHere known.starts at (place_waiting seat) o
  pub apart : (j k : ℕ) (a b : SeatedTask) → slice_get v.waiting j ≡ Some a
      → slice_get v.waiting k ≡ Some b → a.number ≡ b.number → j ≡ k

-- each task after the first has an older parent
abbrev pub AreOlder : List TaskStart → Type 0
AreOlder starts = (k : ℕ) (b : TaskStart) → slice_get starts (suc k) ≡ Some b → b.parent ≤ k

-- One seat knows all tasks, and keeps those that wait, each once; each other one is that of at most
-- one task, which no other seat is of; nor is any of one that is over.
pub record IsTaskRegister (views : List TaskView) : Type 0 where
  pub keeper_at : ℕ
  pub known : RegisterState
  pub at : ℕ → ℕ
  pub each : (seat : ℕ) (v : TaskView) → get_elem? views seat ≡ some v
      → FitsTaskRegister keeper_at known at seat v
  pub ended : (k : ℕ) (o : TaskResult) → slice_get known.over k ≡ Some o
      → IsHere known.starts at 0 o.own
  pub older : AreOlder known.starts

-- ---- the steps

abbrev pub with_start : RegisterState → TaskStart → RegisterState
with_start known b = record { starts = known.starts ++ b ∷ []; over = known.over }

abbrev pub with_end : RegisterState → TaskResult → RegisterState
with_end known o = record { starts = known.starts; over = known.over ++ o ∷ [] }

-- the root is entered, and has a seat beside the keeper's
abbrev pub BeginsJob : {S : Type 0} → (TaskStart → Type 0) → Step S → Me S TaskView → ℕ
    → Me S TaskView → Type 0
BeginsJob allows s v found w =
    (b : TaskStart) × allows b
    × (w ≡ (
      record v.0 {
        known = with_start v.0.known b;
        has_child = true;
        child = fresh_task (length v.0.known.starts) b;
      },
      v.1,
    ))

-- a child of the task that the keeper is the seat of is entered, and has a seat beside it
abbrev pub AddsChild : {S : Type 0} → (TaskStart → Type 0) → Step S → Me S TaskView → ℕ
    → Me S TaskView → Type 0
AddsChild allows s v found w =
    (b : TaskStart) × allows b
    × (w ≡ (
      record v.0 {
        known = with_start v.0.known b;
        task = with_one_more v.0.task b;
        has_child = true;
        child = fresh_task (length v.0.known.starts) b;
      },
      v.1,
    ))

-- The task was started so, and has just these children. It isn't over, and doesn't wait.
pub record IsOpen (known : RegisterState) (waiting : List SeatedTask) (o : SeatedTask) : Type 0 where
  pub task : IsTask known.starts o
  pub not_over : (k : ℕ) (e : TaskResult) → slice_get known.over k ≡ Some e
      → e.own.number ≢ o.number
  pub not_waiting : (k : ℕ) (w : SeatedTask) → slice_get waiting k ≡ Some w → w.number ≢ o.number

-- the task that the keeper is the seat of is over, and was open
abbrev pub ClosesTask : {S : Type 0} → (TaskResult → Type 0) → Step S → Me S TaskView → ℕ
    → Me S TaskView → Type 0
ClosesTask allows s v found w =
    (o : TaskResult) × allows o × (o.own ≡ v.0.task) × IsOpen v.0.known v.0.waiting v.0.task
    × (w ≡ (
      record v.0 { known = with_end v.0.known o; is_task = false; task = no_seated_task },
      v.1,
    ))

-- each task that is over was started so, and has just these children
pub record AllKnown (known : RegisterState) : Type 0 where
  pub tasks : (k : ℕ) (o : TaskResult) → slice_get known.over k ≡ Some o → IsTask known.starts o.own
  pub older : AreOlder known.starts

abbrev pub KnowsAll : {S : Type 0} → Step S → Me S TaskView → ℕ → Me S TaskView → Type 0
KnowsAll s v found w = (w ≡ v) × AllKnown v.0.known
