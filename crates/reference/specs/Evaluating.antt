-- What the tasks come to that are still to be evaluated.
use Rattle.std.specs.Prelude.{◌≡◌, ◌⊎◌, ℕ, zero, suc, ◌+◌, List, [], ◌∷◌, ◌++◌, map, reverse, slice_get, false, Some, sum_by}
use Rattle.machine_model.specs.Machine.{Program, Effect, Continues, Ends, Spawns, Calls, Traps, effect}
use Rattle.machine_model.specs.JobState.{Task, child_of, entries_of, with_state}
use Rattle.task_trees.specs.Eval.{Eval, Finished, parent_of, state_with}
use Rattle.reference.specs.Records.{IsFarEffect, ended_of, task_of}
use Rattle.reference.specs.declared.evaluating.FinishedTask.{FinishedTask}
use Rattle.reference.specs.declared.evaluating.Pending.{Pending}

abbrev pub finished_of : FinishedTask → Finished
finished_of f = record { ending = ended_of f.ending; bytes = f.bytes.items }

-- what these tasks come to, one after the other
abbrev pub AllCome : List Program → List Pending → List Finished → Type 0
AllCome programs [] result = result ≡ []
AllCome programs (p ∷ ps) result =
    (own later : List Finished) × Eval programs (task_of p.task) p.bytes.items own
    × AllCome programs ps later × (result ≡ own ++ later)

-- the tasks that are done, and then what these come to
abbrev pub DoneThen : List Program → List FinishedTask → List Pending → List Finished → Type 0
DoneThen programs done ps result =
    (rest : List Finished) × AllCome programs ps rest × (result ≡ map finished_of done ++ rest)

-- the tasks that are done, and then what the tasks of a path come to, of which the last comes first
abbrev pub PathComes : List Program → List Pending → List FinishedTask → List Finished → Type 0
PathComes programs path done result = DoneThen programs done (reverse path) result

-- what the tasks of a path have used, and what those that are done have spent
abbrev pub used_so_far : List Pending → List FinishedTask → ℕ
used_so_far path done = sum_by (λ p. p.task.used) path + sum_by (λ f. f.ending.spent) done

-- after the effect one of the tasks that go on is such a one
abbrev pub GoesOnTo : (Task → List ℕ → Type 0) → Task → Effect → Type 0
GoesOnTo on t (Continues next) = on (with_state t next) next.part
GoesOnTo on t (Ends r0 last) = ⊥
GoesOnTo on t (Spawns birth taken refused) =
    on (child_of t taken birth) birth.bytes ⊎ on (parent_of t taken) taken.part
GoesOnTo on t (Calls helper arguments caller) = ⊥
GoesOnTo on t (Traps trap) = ⊥

-- within so many instructions of its own and of its ancestors', the task, or one that comes of it,
-- comes to an effect that is more than the reference has
abbrev pub ComesFarWithin : List Program → ℕ → Task → List ℕ → Type 0
ComesFarWithin programs zero t bytes = ⊥
ComesFarWithin programs (suc n) t bytes = (p : Program) × (slice_get programs t.program ≡ Some p)
    × (IsFarEffect t false (effect p (entries_of programs) (state_with t bytes))
    ⊎ GoesOnTo (ComesFarWithin programs n) t (effect p (entries_of programs) (state_with t bytes)))

abbrev pub ComesFar : List Program → Task → List ℕ → Type 0
ComesFar programs t bytes = (n : ℕ) × ComesFarWithin programs n t bytes
