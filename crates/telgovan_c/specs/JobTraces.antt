-- The steps of a job along a schedule, as C is told them.
use Rattle.std.specs.Prelude.{◌≡◌, ℕ, List, length, map, slice_get, Bool, true, false, Option, None, Some, Vec}
use Rattle.std.specs.declared.alloc.Global.{Global}
use Rattle.insn_codec.specs.declared.insn.Placed.{Placed}
use Rattle.machine_model.specs.JobState.{Move, run, start}
use Rattle.machine_model.specs.Machine.{Program}
use Rattle.reference.specs.Records.{IsFarRun}
use Rattle.job_core.specs.declared.admission.ProgramBytes.{ProgramBytes}
use Rattle.job_core.specs.Admitted.{AdmittedJob}
use Rattle.run_trace.specs.declared.job_step.JobStep.{JobStep}
use Rattle.run_trace.specs.JobSteps.{AreStepsOf}
use Rattle.run_trace.specs.Spelled.{IsSpelled}
use Rattle.telgovan_c.specs.declared.jobs.CodePiece.{CodePiece}
use Rattle.telgovan_c.specs.declared.jobs.JobReport.{JobReport}
use Rattle.telgovan_c.specs.declared.texts.Written.{Written}
use Rattle.telgovan_c.specs.Admitting.{IsCutJob, IsJobRefused}
use Rattle.telgovan_c.specs.Texts.{IsTextWritten, refused_text}
use Rattle.telgovan_c.specs.Traces.{AreLines}

-- each program is spelled by the bytes at its place, and has the instructions there
pub record AreProgramsOf (bytes : List ProgramBytes) (listings : List (List Placed))
    (programs : List Program) : Type 0 where
  pub many : length programs ≡ length bytes
  pub as_many : length listings ≡ length bytes
  pub each : (n : ℕ) (b : ProgramBytes) (placed : List Placed) (p : Program)
      → slice_get bytes n ≡ Some b → slice_get listings n ≡ Some placed
      → slice_get programs n ≡ Some p → IsSpelled b.need b.code.items placed p

-- an entry of a schedule, at which no spawn is refused
abbrev pub unrefused_move : ℕ → Move
unrefused_move number = record { number = number; refuses = false }

-- the steps are those of a job of these programs along the schedule
pub record AreStepsAlong (bytes : List ProgramBytes) (credit : ℕ) (buffer schedule : List ℕ)
    (steps : List JobStep) : Type 0 where
  pub listings : List (List Placed)
  pub programs : List Program
  pub spelled : AreProgramsOf bytes listings programs
  pub are : AreStepsOf listings programs (start credit buffer) (map unrefused_move schedule) steps

-- a task of the job traps on the way
pub record Traps (bytes : List ProgramBytes) (credit : ℕ) (buffer schedule : List ℕ) : Type 0 where
  pub listings : List (List Placed)
  pub programs : List Program
  pub spelled : AreProgramsOf bytes listings programs
  pub stops : run programs (start credit buffer) (map unrefused_move schedule) ≡ None

-- a pointer's position on the way has more than 64 bits
pub record StepsGoFar (bytes : List ProgramBytes) (credit : ℕ) (buffer schedule : List ℕ) :
    Type 0 where
  pub listings : List (List Placed)
  pub programs : List Program
  pub spelled : AreProgramsOf bytes listings programs
  pub far : IsFarRun programs (start credit buffer) (map unrefused_move schedule)

abbrev pub HasSteps : List ProgramBytes → ℕ → List ℕ → List ℕ → Option (Vec JobStep Global)
    → Type 0
HasSteps bytes credit buffer schedule None = Traps bytes credit buffer schedule
HasSteps bytes credit buffer schedule (Some steps) =
    AreStepsAlong bytes credit buffer schedule steps.items

-- so many lines are written; or there is no memory
pub data AreLinesWritten (count : ℕ) (old new : List ℕ) (told : Written) : Type 0 where
  written : (lines : List ℕ) → AreLines count lines → IsTextWritten lines old new told
      → AreLinesWritten count old new told
  no_memory : new ≡ old → told ≡ refused_text 99 None → AreLinesWritten count old new told

-- The steps are told, a line each. Or there are none to tell, or there is no memory.
pub data AreJobStepsWritten (bytes : List ProgramBytes) (credit : ℕ)
    (buffer schedule old new : List ℕ) (told : Written) : Type 0 where
  goes : (steps : List JobStep) → AreStepsAlong bytes credit buffer schedule steps
      → AreLinesWritten (length steps) old new told
      → AreJobStepsWritten bytes credit buffer schedule old new told
  traps : Traps bytes credit buffer schedule → new ≡ old → told ≡ refused_text 47 None
      → AreJobStepsWritten bytes credit buffer schedule old new told
  too_far : StepsGoFar bytes credit buffer schedule → new ≡ old → told ≡ refused_text 65 None
      → AreJobStepsWritten bytes credit buffer schedule old new told
  no_memory : new ≡ old → told ≡ refused_text 99 None
      → AreJobStepsWritten bytes credit buffer schedule old new told

abbrev pub told_if : Bool → ℕ → Option ℕ
told_if true place = Some place
told_if false place = None

-- the place of the program that a report is about
abbrev pub program_told : JobReport → Option ℕ
program_told report = told_if report.has_program report.program

-- the steps of a job of the pieces are told; or there is no job
pub data IsJobTraced (code : List ℕ) (pieces : List CodePiece) (credit : ℕ)
    (buffer schedule old new : List ℕ) (told : Written) : Type 0 where
  admitted : (programs : List ProgramBytes) (job : AdmittedJob)
      → IsCutJob code pieces credit buffer programs job
      → AreJobStepsWritten programs credit buffer schedule old new told
      → IsJobTraced code pieces credit buffer schedule old new told
  refused : (report : JobReport) → IsJobRefused code pieces credit buffer report → new ≡ old
      → told ≡ refused_text report.status (program_told report)
      → IsJobTraced code pieces credit buffer schedule old new told
