-- The children that a task hands over while it runs by itself.
use Rattle.std.specs.Prelude.{◌≡◌, ℕ, List, ◌++◌, map, Result, Ok, Err}
use Rattle.helpers.specs.declared.spawner.SpawnRecord.{SpawnRecord}
use Rattle.task_trees.specs.Solo.{SpawnRequest}
use Rattle.task_register.specs.declared.seats.TaskStart.{TaskStart}
use Rattle.task_register.specs.declared.seats.SeatedTask.{SeatedTask}
use Rattle.task_register.specs.Rule.{with_one_more}
use Rattle.job_answer.specs.SpawnTree.{taken}
use Rattle.job_answer.specs.Gathered.{handed}

-- what the child of a task of this number is started with, by the record of its spawn
abbrev pub start_of : ℕ → SpawnRecord → TaskStart
start_of number r = record {
  parent = number;
  program = r.program;
  share = r.share;
  arg = r.arg;
  base = r.part.base;
  bytes = r.part.bytes;
}

module _ {S : Type 0} (own : S → SeatedTask) (spawns : S → SpawnRecord → Result (Unit {0}) SpawnRecord → S
    → Type 0) where
  -- a spawn that is taken is a child more of the task whose seat the spawner has, and one that is
  -- refused is none
  pub record AddsEachChild : Type 0 where
    pub took : (old new : S) (child : SpawnRecord) → spawns old child (Ok tt) new
        → own new ≡ with_one_more (own old) (start_of (own old).number child)
    pub refused : (old new : S) (child back : SpawnRecord) → spawns old child (Err back) new
        → own new ≡ own old

-- the task has these children more, just those that it was given of what it asked for
pub record HasAdded (base : ℕ) (old : SeatedTask) (asked : List SpawnRequest) (new : SeatedTask) : Type 0 where
  pub number : new.number ≡ old.number
  pub birth : new.birth ≡ old.birth
  pub children : new.children ≡ old.children ++ map (handed old.number base) (taken asked)
