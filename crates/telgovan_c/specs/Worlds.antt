-- What a handle holds of a job under way, and what C's calls do with it.
use Rattle.std.specs.Prelude.{◌≡◌, ◌↔◌, ℕ, ◌≤◌, List, length, Option, None, Some, IsTrue, false}
use Rattle.machine_model.specs.JobState.{JobState, IsComplete, start}
use Rattle.job_core.specs.Admitted.{AdmittedJob}
use Rattle.job_core.specs.Answers.{AreTotals}
use Rattle.job_core.specs.OneTask.{RunsTask}
use Rattle.job_core.specs.Representation.{RepresentsJob, WorldState}
use Rattle.job_core.specs.declared.admission.ProgramBytes.{ProgramBytes}
use Rattle.job_core.specs.declared.admission.AdmitFault.TheVariants.{NoMemory}
use Rattle.job_core.specs.declared.tasks.Stepped.{Stepped}
use Rattle.job_core.specs.declared.tasks.Stepped.TheVariants.{Skipped, Went, Ended}
use Rattle.telgovan_c.specs.declared.jobs.CodePiece.{CodePiece}
use Rattle.telgovan_c.specs.declared.jobs.JobReport.{JobReport}
use Rattle.telgovan_c.specs.declared.texts.Written.{Written}
use Rattle.telgovan_c.specs.declared.world_handle.WorldHandle.{WorldHandle}
use Rattle.telgovan_c.specs.declared.worlds.WorldStep.{WorldStep}
use Rattle.telgovan_c.specs.Admitting.{IsCutJob, IsJobRefused}
use Rattle.telgovan_c.specs.Jobs.{refused_report}
use Rattle.telgovan_c.specs.Texts.{IsTextWritten, refused_text}

-- the job that the handle holds, if it holds one
abbrev pub world_in : WorldHandle → Option WorldState
world_in w = w.held.kept

-- a job at its start has one task
abbrev pub opened_report : JobReport
opened_report = record {
  tasks = 1;
  status = 0;
  spent = 0;
  returned = 0;
  program = 0;
  slot = 0;
  has_program = false;
  has_slot = false;
}

-- there is no job
abbrev pub no_step : WorldStep
no_step = record {
  r0 = 0;
  status = 41;
  came_to = 0;
  count = 0;
  tasks = 0;
  held = 0;
  returned = 0;
  spent = 0;
  used = 0;
  is_complete = false;
}

-- the number of what a run came to, and R0 where the task has ended
abbrev pub came_number : Stepped → ℕ
came_number Skipped = 0
came_number Went = 1
came_number (Ended r0) = 2

abbrev pub r0_at_end : Stepped → ℕ
r0_at_end Skipped = 0
r0_at_end Went = 0
r0_at_end (Ended r0) = r0

-- the job is held at its start; or there is no memory, and the handle holds what it held
pub data IsOpened (job : AdmittedJob) (old new : Option WorldState) (told : JobReport) : Type 0 where
  opened : (world : WorldState) → new ≡ Some world
      → RepresentsJob world (start job.credit job.buffer) → world.programs ≡ job.programs
      → told ≡ opened_report → IsOpened job old new told
  no_memory : new ≡ old → told ≡ refused_report NoMemory → IsOpened job old new told

-- a job of the pieces is held at its start; or it is refused, and the handle holds what it held
pub data IsOpenedFrom (code : List ℕ) (pieces : List CodePiece) (credit : ℕ) (buffer : List ℕ)
    (old new : Option WorldState) (told : JobReport) : Type 0 where
  admitted : (programs : List ProgramBytes) (job : AdmittedJob)
      → IsCutJob code pieces credit buffer programs job → IsOpened job old new told
      → IsOpenedFrom code pieces credit buffer old new told
  refused : IsJobRefused code pieces credit buffer told → new ≡ old
      → IsOpenedFrom code pieces credit buffer old new told

-- the sums that are told are those of every job behind what is kept
pub record TellsWorld (world : WorldState) (told : WorldStep) : Type 0 where
  pub count : (j : JobState) → RepresentsJob world j → told.tasks ≡ length j.tasks
  pub totals : (j : JobState) → RepresentsJob world j
      → AreTotals (record {
        held = told.held;
        returned = told.returned;
        spent = told.spent;
        used = told.used;
      }) j
  pub complete : (j : JobState) → RepresentsJob world j → (IsTrue told.is_complete ↔ IsComplete j)

-- a task has run, and this is told of it and of the job
pub record HasRun (old : WorldState) (number limit : ℕ) (new : WorldState) (told : WorldStep) :
    Type 0 where
  pub came_to : Stepped
  pub runs : (j : JobState) → RepresentsJob old j → RunsTask old j number told.count came_to new
  pub skipped : came_to ≡ Skipped → new ≡ old
  pub whole : came_to ≡ Went → told.count ≡ limit
  pub most : told.count ≤ limit
  pub programs : new.programs ≡ old.programs
  pub number_told : told.came_to ≡ came_number came_to
  pub r0_told : told.r0 ≡ r0_at_end came_to
  pub status : told.status ≡ 0
  pub stands : TellsWorld new told

-- a task of what the handle holds has run; or it holds nothing
pub data IsRunTold (old : Option WorldState) (number limit : ℕ) (new : Option WorldState)
    (told : WorldStep) : Type 0 where
  ran : (world next : WorldState) → old ≡ Some world → new ≡ Some next
      → HasRun world number limit next told → IsRunTold old number limit new told
  no_job : old ≡ None → new ≡ None → told ≡ no_step → IsRunTold old number limit new told

-- the buffer of every job behind what is kept is written; or there is no memory
pub data IsBufferTold (world : WorldState) (old new : List ℕ) (told : Written) : Type 0 where
  written : (buffer : List ℕ) → ((j : JobState) → RepresentsJob world j → buffer ≡ j.buffer)
      → IsTextWritten buffer old new told → IsBufferTold world old new told
  no_memory : new ≡ old → told ≡ refused_text 99 None → IsBufferTold world old new told

-- the buffer of what the handle holds is written; or it holds nothing
pub data IsBufferGiven (kept : Option WorldState) (old new : List ℕ) (told : Written) : Type 0 where
  of_job : (world : WorldState) → kept ≡ Some world → IsBufferTold world old new told
      → IsBufferGiven kept old new told
  no_job : kept ≡ None → new ≡ old → told ≡ refused_text 41 None → IsBufferGiven kept old new told
