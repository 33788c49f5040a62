-- The tree of a job's tasks.
use Rattle.std.specs.Prelude.{◌≡◌, ◌<◌, ℕ, List, [], ◌∷◌, ◌++◌, Option, Some, None}
use Rattle.machine_model.specs.Machine.{Program}
use Rattle.task_trees.specs.Answer.{RootComes, spent_in}
use Rattle.task_trees.specs.Eval.{Finished}

-- a task's parent stands at its place without the last number; the root has none
abbrev pub IsParentOf : List ℕ → Option (List ℕ) → Type 0
IsParentOf place None = place ≡ []
IsParentOf place (Some parent) = (k : ℕ) × (place ≡ parent ++ k ∷ [])

-- these are the tasks that the root of the job comes to, each at its end
abbrev pub IsTree : List Program → ℕ → List ℕ → List Finished → Type 0
IsTree programs credit buffer tasks = RootComes programs credit buffer tasks

-- the root comes to nothing, but for tasks that spend more than the credit
abbrev pub NoTree : List Program → ℕ → List ℕ → Type 0
NoTree programs credit buffer =
    (tasks : List Finished) → RootComes programs credit buffer tasks → credit < spent_in tasks
