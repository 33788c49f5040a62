-- What a register of starts has, once all tasks are over.
use Rattle.std.specs.Prelude.{◌≡◌, ◌==◌, ℕ, zero, suc, ◌+◌, List, [], ◌∷◌, ◌++◌, All, Contains, map, length, take, drop, replicate, slice_get, sum_by, Some}
use Rattle.machine_model.specs.Memory.{written}
use Rattle.task_trees.specs.Eval.{Finished}
use Rattle.task_trees.specs.Answer.{RootComes, joined_bytes, spent_in}
use Rattle.std.specs.List.{count_by}
use Rattle.std.specs.List.Sorted.{IsPermutation}
use Rattle.machine_model.specs.Machine.{State, Program, Birth}
use Rattle.machine_model.specs.JobState.{entries_of}
use Rattle.task_trees.specs.Solo.{SpawnRequest, IsGiven, Solo, entering}
use Rattle.virtual_machine.specs.Through.{none_refused}
use Rattle.task_register.specs.declared.seats.TaskStart.{TaskStart}
use Rattle.task_register.specs.declared.seats.TaskResult.{TaskResult}
use Rattle.task_register.specs.declared.seats.RegisterState.{RegisterState}
use Rattle.task_register.specs.Rule.{AllKnown}
use Rattle.job_answer.specs.SpawnTree.{TaskRun, IsSpawnTree, finished_run, taken}

-- what a task was started with, as the machine has it
abbrev pub birth_at_start : TaskStart → Birth
birth_at_start s = record { program = s.program; share = s.share; arg = s.arg; bytes = s.bytes }

-- what a task of this number, whose part begins at this base, hands over by a spawn
abbrev pub handed : ℕ → ℕ → SpawnRequest → TaskStart
handed number base a = record {
  parent = number;
  program = a.birth.program;
  share = a.birth.share;
  arg = a.birth.arg;
  base = base + a.at;
  bytes = a.birth.bytes;
}

-- The task ran so, by itself, on what it was started with, which suffices for its program. Its
-- children are what it handed over, and it left its bytes where they were. It is told as whole
-- exactly where none of its spawns was refused.
pub record RanByItself (programs : List Program) (o : TaskResult) : Type 0 where
  pub program : Program
  pub there : slice_get programs o.own.birth.program ≡ Some program
  pub suffices : IsGiven program o.own.birth.share o.own.birth.bytes
  pub asked : List SpawnRequest
  pub last : State
  pub alone : Solo program (entries_of programs)
      (entering o.own.birth.arg o.own.birth.share o.own.birth.bytes) asked o.r0 last
  pub used : o.used ≡ last.used
  pub bytes : o.bytes ≡ last.part
  pub base : o.base ≡ o.own.birth.base
  pub children : o.own.children ≡ map (handed o.own.number o.own.birth.base) (taken asked)
  pub told : o.whole ≡ none_refused asked

abbrev pub root_start : ℕ → List ℕ → TaskStart
root_start credit buffer = record {
  parent = 0;
  program = 0;
  share = credit;
  arg = 0;
  base = 0;
  bytes = buffer;
}

-- the numbers below this one
abbrev pub numbers_to : ℕ → List ℕ
numbers_to zero = []
numbers_to (suc n) = numbers_to n ++ n ∷ []

-- Each task that was started is over, once, and ran by itself.
pub record IsGathered (programs : List Program) (credit : ℕ) (buffer : List ℕ) (known : RegisterState) :
    Type 0 where
  pub all : AllKnown known
  pub root : slice_get known.starts 0 ≡ Some (root_start credit buffer)
  pub runs : All (RanByItself programs) known.over
  pub once : (n : ℕ) → count_by (λ (o : TaskResult). o.own.number == n) known.over
      ≡ count_by (λ (k : ℕ). k == n) (numbers_to (length known.starts))

abbrev pub parents_of : RegisterState → List ℕ
parents_of known = map (λ (s : TaskStart). s.parent) (drop 1 known.starts)

-- what a task left where, what it used and R0
pub record TaskRemains : Type 0 where
  pub base : ℕ
  pub bytes : List ℕ
  pub spent : ℕ
  pub r0 : ℕ

abbrev pub remains_of : TaskResult → TaskRemains
remains_of o = record { base = o.base; bytes = o.bytes; spent = o.used; r0 = o.r0 }

abbrev pub left_of : Finished → TaskRemains
left_of f = record {
  base = f.ending.base;
  bytes = f.bytes;
  spent = f.ending.spent;
  r0 = f.ending.r0;
}

-- They are a family, and what was told of them, in the order of their ends, is what they came to.
pub record GatheredTree (programs : List Program) (credit : ℕ) (buffer : List ℕ) (known : RegisterState) :
    Type 0 where
  pub tasks : List TaskRun
  pub family : IsSpawnTree programs credit buffer (parents_of known) tasks
  pub ended : List Finished
  pub order : IsPermutation ended (map finished_run tasks)
  pub told : map left_of ended ≡ map remains_of known.over
  pub each : (n : ℕ) (t : TaskRun) → slice_get tasks n ≡ Some t → (o : TaskResult)
      × Contains known.over o × (o.own.number ≡ n) × (birth_at_start o.own.birth ≡ t.birth)
      × (remains_of o ≡ left_of (finished_run t))
      × (o.own.children ≡ map (handed n o.own.birth.base) (taken t.asked))
      × (o.whole ≡ none_refused t.asked)

-- so much memory, with what each of these tasks left written in its turn
abbrev pub laid : List ℕ → List Finished → List ℕ
laid memory [] = memory
laid memory (f ∷ fs) = laid (take (length memory) (written memory f.ending.base f.bytes)) fs

-- the same of tasks of a register
abbrev pub laid_from : List ℕ → List TaskResult → List ℕ
laid_from memory [] = memory
laid_from memory (o ∷ os) = laid_from (take (length memory) (written memory o.base o.bytes)) os

-- Where none of them was refused a spawn, they are what the root comes to: what they left, as it was
-- written, is the answer's buffer, and what they used is what it spent.
pub record GivesAnswer (programs : List Program) (credit : ℕ) (buffer : List ℕ)
    (known : RegisterState)
    (tasks : List TaskRun) : Type 0 where
  pub fs : List Finished
  pub comes : RootComes programs credit buffer fs
  pub all : IsPermutation (map finished_run tasks) fs
  pub buffer_is : laid_from (replicate (length buffer) 0) known.over ≡ joined_bytes (length buffer) fs
  pub spent : sum_by (λ (o : TaskResult). o.used) known.over ≡ spent_in fs
