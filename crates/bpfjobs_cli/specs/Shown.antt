-- What is shown of a job that an input says.
use Rattle.std.specs.Prelude.{◌≡◌, ℕ, List, length, map, slice_get, Bool, true, false, None, Some, Ok, Err}
use Rattle.insn_codec.specs.declared.insn.Placed.{Placed}
use Rattle.machine_model.specs.JobState.{Move, run, start}
use Rattle.machine_model.specs.Machine.{Program}
use Rattle.task_trees.specs.Eval.{Finished}
use Rattle.sessions.specs.Answers.{ObjectAnswer}
use Rattle.sessions.specs.declared.fault.SessionFault.{SessionFault}
use Rattle.sessions.specs.declared.request.JobObject.{JobObject}
use Rattle.job_core.specs.Admission.{IsAdmittedFrom, RefusesJob}
use Rattle.job_core.specs.Admitted.{AdmittedJob}
use Rattle.job_core.specs.declared.admission.AdmitFault.{AdmitFault}
use Rattle.job_core.specs.declared.admission.ProgramBytes.{ProgramBytes}
use Rattle.run_trace.specs.declared.job_step.JobStep.{JobStep}
use Rattle.run_trace.specs.JobSteps.{AreStepsOf}
use Rattle.run_trace.specs.Spelled.{IsSpelled, listings_of, programs_of}
use Rattle.run_trace.specs.Trees.{IsTree, NoTree}
use Rattle.bpfjobs_cli.specs.declared.requested_job.RequestedJob.{RequestedJob}

-- each program is spelled by the bytes at its place, and has the instructions there
pub record AreSpelledBy (bytes : List ProgramBytes) (listings : List (List Placed))
    (programs : List Program) : Type 0 where
  pub many : length programs ≡ length bytes
  pub as_many : length listings ≡ length bytes
  pub each : (n : ℕ) (b : ProgramBytes) (placed : List Placed) (p : Program)
      → slice_get bytes n ≡ Some b → slice_get listings n ≡ Some placed
      → slice_get programs n ≡ Some p → IsSpelled b.need b.code.items placed p

-- The input says a job, with a schedule where one is wanted. It is admitted, and this is that job.
pub record IsRequestedJob (wants : Bool) (input : List ℕ) (job : RequestedJob) : Type 0 where
  pub object : JobObject
  pub read : ObjectAnswer wants (Ok object) input
  pub admitted : AdmittedJob
  pub is_admitted : IsAdmittedFrom object.programs.items object.credit object.buffer.items admitted
  pub spelled : AreSpelledBy object.programs.items (listings_of job.programs)
      (programs_of job.programs)
  pub same_credit : job.credit ≡ object.credit
  pub same_buffer : job.buffer.items ≡ object.buffer.items
  pub same_schedule : job.schedule.items ≡ object.schedule.items

-- the input says no job, or one that isn't admitted
pub data IsRefusedJob (wants : Bool) (input : List ℕ) : Type 0 where
  no_object : (why : SessionFault) → ObjectAnswer wants (Err why) input → IsRefusedJob wants input
  no_job : (object : JobObject) (why : AdmitFault) → ObjectAnswer wants (Ok object) input
      → RefusesJob object.programs.items object.credit object.buffer.items why
      → IsRefusedJob wants input

-- an entry of a schedule, at which no spawn is refused
abbrev pub taken_move : ℕ → Move
taken_move number = record { number = number; refuses = false }

-- The steps are those of the job that the input says, along its schedule.
pub record AreStepsPlayed (input : List ℕ) (steps : List JobStep) : Type 0 where
  pub job : RequestedJob
  pub is_job : IsRequestedJob true input job
  pub are : AreStepsOf (listings_of job.programs) (programs_of job.programs)
      (start job.credit job.buffer.items) (map taken_move job.schedule.items) steps

-- there is no job, or its schedule leads to a trap
pub data HasNoSteps (input : List ℕ) : Type 0 where
  no_job : IsRefusedJob true input → HasNoSteps input
  traps : (job : RequestedJob) → IsRequestedJob true input job
      → run (programs_of job.programs) (start job.credit job.buffer.items)
      (map taken_move job.schedule.items) ≡ None → HasNoSteps input

-- The tasks are those that the root of the job comes to that the input says.
pub record IsTreeRun (input : List ℕ) (tasks : List Finished) : Type 0 where
  pub job : RequestedJob
  pub is_job : IsRequestedJob false input job
  pub is : IsTree (programs_of job.programs) job.credit job.buffer.items tasks

-- there is no job, or its root comes to nothing
pub data HasNoTree (input : List ℕ) : Type 0 where
  no_job : IsRefusedJob false input → HasNoTree input
  no_tree : (job : RequestedJob) → IsRequestedJob false input job
      → NoTree (programs_of job.programs) job.credit job.buffer.items → HasNoTree input
