-- One task that runs for a while, and no other.
use Rattle.std.specs.Prelude.{◌≡◌, ℕ, suc, List, map, Bool, Some}
use Rattle.machine_model.specs.Machine.{Program}
use Rattle.machine_model.specs.JobState.{JobState, IsAlive, step}
use Rattle.verifier.specs.Checked.{program_of}
use Rattle.job_core.specs.Representation.{WorldState, RepresentsJob, StepAnswers, Steps}
use Rattle.job_core.specs.declared.tasks.Stepped.{Stepped}
use Rattle.job_core.specs.declared.tasks.Stepped.TheVariants.{Skipped}

-- So many steps of the task, which is alive at each of them, lead from one job to another, for some
-- choice of spawns that are refused.
pub data GoesAlone (programs : List Program) (n : ℕ) : JobState → ℕ → JobState → Type 0 where
  stays : (j : JobState) → GoesAlone programs n j 0 j
  goes : (j k l : JobState) (refuses : Bool) (count : ℕ) → IsAlive j n
      → step programs j n refuses ≡ Some k → GoesAlone programs n k count l
      → GoesAlone programs n j (suc count) l

-- So many of them lead to a job behind what is kept, where the task is as it is told.
pub record RunsTask (old : WorldState) (j : JobState) (n count : ℕ) (came_to : Stepped)
    (new : WorldState) : Type 0 where
  pub last : JobState
  pub steps : GoesAlone (map program_of old.programs) n j count last
  pub behind : RepresentsJob new last
  pub answers : StepAnswers came_to j n last

-- the task isn't alive, so nothing changes
pub record IsSkipped (old : WorldState) (n : ℕ) (new : WorldState) : Type 0 where
  pub same : new ≡ old
  pub skips : (j : JobState) → RepresentsJob old j → Steps old j n Skipped old
