-- What is told of a job of programs that are spelled.
use Rattle.std.proofs.Common.{◌≡◌, ℕ, List, map, MatchOption, Option, Some, None, Result, Ok, Err, IfOk, Vec, Global}
use Rattle.insn_codec.specs.declared.insn.Placed.{Placed}
use Rattle.machine_model.specs.JobState.{run, start}
use Rattle.machine_model.specs.Machine.{Program}
use Rattle.job_core.specs.declared.admission.ProgramBytes.{ProgramBytes}
use Rattle.run_trace.specs.declared.job_step.JobStep.{JobStep}
use Rattle.run_trace.specs.JobSteps.{AreStepsOf}
use Rattle.telgovan_c.specs.JobTraces.{AreProgramsOf, HasSteps, unrefused_move}

pub steps_told : (bytes : List ProgramBytes) (credit : ℕ) (buffer schedule : List ℕ) (listings : List (List Placed)) (programs : List Program)
    (told : Option (Vec JobStep Global)) → AreProgramsOf bytes listings programs →
    MatchOption told (run programs (start credit buffer) (map unrefused_move schedule) ≡ None)
    (λ steps. AreStepsOf listings programs (start credit buffer) (map unrefused_move schedule) steps.items) →
    HasSteps bytes credit buffer schedule told
steps_told bytes credit buffer schedule listings programs None spelled none = record { listings = listings; programs = programs; spelled = spelled; stops = none }
steps_told bytes credit buffer schedule listings programs (Some steps) spelled are = record { listings = listings; programs = programs; spelled = spelled; are = are }
