-- The tasks of a job, each with what it was started with and how it ran by itself.
use Rattle.std.specs.Prelude.{◌≡◌, ℕ, suc, ◌+◌, ◌≤◌, List, [], ◌∷◌, ◌++◌, length, replicate, sum_by, take, slice_get, Bool, true, false, Some}
use Rattle.machine_model.specs.Machine.{State, Program, Birth}
use Rattle.machine_model.specs.JobState.{Task, with_state, ending_of, entries_of, entry_registers}
use Rattle.task_trees.specs.Solo.{SpawnRequest, Solo, entering}
use Rattle.task_trees.specs.Eval.{Finished}
use Rattle.task_trees.specs.Families.{children_of}

-- A task: what it was started with, its place in the tree, where its bytes begin in the buffer, the
-- spawns that it asked for, R0, and its last state.
pub record TaskRun : Type 0 where
  pub birth : Birth
  pub place : List ℕ
  pub base : ℕ
  pub asked : List SpawnRequest
  pub r0 : ℕ
  pub last : State

-- what the root of a job is started with
abbrev pub root_birth : ℕ → List ℕ → Birth
root_birth credit buffer = record { program = 0; share = credit; arg = 0; bytes = buffer }

-- the task at its start
abbrev pub task_at_start : TaskRun → Task
task_at_start t = record {
  program = t.birth.program;
  arg = t.birth.arg;
  given = t.birth.share;
  place = t.place;
  children = 0;
  slot = 0;
  registers = entry_registers (length t.birth.bytes) t.birth.arg;
  stack = replicate 512 0;
  base = t.base;
  size = length t.birth.bytes;
  held = t.birth.share;
  used = 0;
}

-- the task at its end, with the bytes that it left
abbrev pub finished_run : TaskRun → Finished
finished_run t = record {
  ending = ending_of (with_state (task_at_start t) t.last) t.last t.r0;
  bytes = t.last.part;
}

-- the task ran so by itself, from its start on
pub record RanSo (programs : List Program) (t : TaskRun) : Type 0 where
  pub program : Program
  pub there : slice_get programs t.birth.program ≡ Some program
  pub alone : Solo program (entries_of programs) (entering t.birth.arg t.birth.share t.birth.bytes)
      t.asked t.r0 t.last

abbrev pub if_taken : Bool → SpawnRequest → List SpawnRequest → List SpawnRequest
if_taken true a later = later
if_taken false a later = a ∷ later

-- those of these spawns that were taken
abbrev pub taken : List SpawnRequest → List SpawnRequest
taken [] = []
taken (a ∷ later) = if_taken a.refused a (taken later)

-- the credit of these spawns, together
abbrev pub given_by : List SpawnRequest → ℕ
given_by asked = sum_by (λ a. a.birth.share) asked

-- What a task holds at its end, with the credit of the spawns that were taken, is what it held. It
-- spent no more than it holds.
pub record LeavesCredit (held : ℕ) (asked : List SpawnRequest) (last : State) : Type 0 where
  pub whole : last.held + given_by (taken asked) ≡ held
  pub paid : last.used ≤ last.held

-- t is the child that q was given after so many others
pub record IsChildOf (before : ℕ) (q t : TaskRun) : Type 0 where
  pub request : SpawnRequest
  pub asked : slice_get (taken q.asked) before ≡ Some request
  pub birth : t.birth ≡ request.birth
  pub place : t.place ≡ q.place ++ suc before ∷ []
  pub base : t.base ≡ q.base + request.at

-- The parents are those of the tasks after the root, in the order of their numbers. Each task ran so
-- by itself; the root was started with the whole job, and each other task with what its parent handed
-- over: the tasks of one parent are, in the order of their numbers, just those that it was given.
pub record IsSpawnTree (programs : List Program) (credit : ℕ) (buffer : List ℕ) (parents : List ℕ)
    (tasks : List TaskRun) : Type 0 where
  pub long : length tasks ≡ suc (length parents)
  pub older : (n p : ℕ) → slice_get parents n ≡ Some p → p ≤ n
  pub ran : (n : ℕ) (t : TaskRun) → slice_get tasks n ≡ Some t → RanSo programs t
  pub top : (t : TaskRun) → slice_get tasks 0 ≡ Some t
      → (t.birth ≡ root_birth credit buffer) × (t.place ≡ []) × (t.base ≡ 0)
  pub each : (n p : ℕ) (t q : TaskRun) → slice_get parents n ≡ Some p
      → slice_get tasks (suc n) ≡ Some t → slice_get tasks p ≡ Some q
      → IsChildOf (children_of p (take n parents)) q t
  pub all : (n : ℕ) (t : TaskRun) → slice_get tasks n ≡ Some t
      → length (taken t.asked) ≡ children_of n parents

-- none of them was refused a spawn
abbrev pub NoneRefused : List TaskRun → Type 0
NoneRefused tasks = (n k : ℕ) (t : TaskRun) (a : SpawnRequest) → slice_get tasks n ≡ Some t
    → slice_get t.asked k ≡ Some a → a.refused ≡ false
