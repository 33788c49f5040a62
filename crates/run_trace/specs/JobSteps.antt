-- What is told of the steps of a job.
use Rattle.std.specs.Prelude.{◌≡◌, ℕ, List, [], ◌∷◌, ◌++◌, length, slice_get, Bool, true, false, Option, Some, None}
use Rattle.insn_codec.specs.declared.insn.Placed.{Placed}
use Rattle.machine_model.specs.JobState.{IsAlive, JobState, Live, Move, Task, entries_of, run, state_in, step}
use Rattle.machine_model.specs.Machine.{State, Program, Birth, Effect, Continues, Ends, Spawns, Calls, Traps, effect}
use Rattle.run_trace.specs.declared.job_step.Came.TheVariants as came
use Rattle.run_trace.specs.declared.job_step.Born.{Born}
use Rattle.run_trace.specs.declared.job_step.JobStep.{JobStep}
use Rattle.run_trace.specs.Steps.{IsStep}

-- the child of this number, by what its spawn started
abbrev pub born_as : ℕ → Birth → Born
born_as number birth = record {
  number = number;
  program = birth.program;
  share = birth.share;
  arg = birth.arg;
  size = length birth.bytes;
}

-- What a step tells of an effect on a task in this state, in a job of so many tasks. A task that
-- spawns has handed over the last bytes of its part: of those that it keeps none changes.
abbrev pub TellsEffect : List Placed → ℕ → Bool → State → JobStep → Effect → Type 0
TellsEffect placed count refuses s told (Continues next) =
    IsStep placed [] s told.step next × (told.came ≡ came.Continued)
TellsEffect placed count refuses s told (Ends r0 last) =
    IsStep placed [] s told.step last × (told.came ≡ came.Ended r0)
TellsEffect placed count true s told (Spawns birth taken refused) =
    IsStep placed [] s told.step refused × (told.came ≡ came.Continued)
TellsEffect placed count false s told (Spawns birth taken refused) =
    IsStep placed [] (record s { part = taken.part }) told.step taken
    × (told.came ≡ came.Spawned (born_as count birth))
TellsEffect placed count refuses s told (Calls helper arguments caller) = ⊥
TellsEffect placed count refuses s told (Traps trap) = ⊥

-- The number is that of a live task, and told is what its program's instruction does to it.
pub record IsJobStep (listings : List (List Placed)) (programs : List Program) (j : JobState)
    (move : Move) (told : JobStep) : Type 0 where
  pub same_task : told.task ≡ move.number
  pub task : Task
  pub alive : slice_get j.tasks move.number ≡ Some (Live task)
  pub program : Program
  pub has_program : slice_get programs task.program ≡ Some program
  pub placed : List Placed
  pub has_listing : slice_get listings task.program ≡ Some placed
  pub tells : TellsEffect placed (length j.tasks) move.refuses (state_in j.buffer task) told
      (effect program (entries_of programs) (state_in j.buffer task))

-- what is told of an entry of a schedule: nothing where its number is that of no live task
abbrev pub IsStepIfAlive : List (List Placed) → List Program → JobState → Move → Option JobStep
    → Type 0
IsStepIfAlive listings programs j move None = IsAlive j move.number → ⊥
IsStepIfAlive listings programs j move (Some told) = IsJobStep listings programs j move told

abbrev pub listed_step : Option JobStep → List JobStep
listed_step None = []
listed_step (Some told) = told ∷ []

-- The steps are those of a job along these entries, in their order, from one job to another.
abbrev pub AreJobSteps : List (List Placed) → List Program → JobState → List Move → List JobStep
    → JobState → Type 0
AreJobSteps listings programs j [] steps last = (steps ≡ []) × (j ≡ last)
AreJobSteps listings programs j (move ∷ moves) steps last =
    (next : JobState) × (step programs j move.number move.refuses ≡ Some next)
    × ((told : Option JobStep) × (rest : List JobStep) × IsStepIfAlive listings programs j move told
    × (steps ≡ listed_step told ++ rest) × AreJobSteps listings programs next moves rest last)

-- The run over the entries leads to a job, and the steps are those on the way.
pub record AreStepsOf (listings : List (List Placed)) (programs : List Program) (j : JobState)
    (moves : List Move) (steps : List JobStep) : Type 0 where
  pub last : JobState
  pub runs : run programs j moves ≡ Some last
  pub told : AreJobSteps listings programs j moves steps last
