-- What is shown of a job that is requested.
use Rattle.std.proofs.Common.{◌≡◌, ℕ, List, map, true, false, MatchOption, Option, Some, None}
use Rattle.std.specs.Prelude.{Vec}
use Rattle.std.specs.declared.alloc.Global.{Global}
use Rattle.machine_model.specs.JobState.{run, start}
use Rattle.reference.specs.Evaluating.{finished_of}
use Rattle.run_trace.specs.declared.job_step.JobStep.{JobStep}
use Rattle.run_trace.specs.declared.tree.Tree.{Tree}
use Rattle.run_trace.specs.JobSteps.{AreStepsOf}
use Rattle.run_trace.specs.Spelled.{listings_of, programs_of}
use Rattle.run_trace.specs.Trees.{IsTree, NoTree}
use Rattle.bpfjobs_cli.specs.declared.requested_job.RequestedJob.{RequestedJob}
use Rattle.bpfjobs_cli.specs.Shown.{AreStepsPlayed, HasNoSteps, HasNoTree, IsRequestedJob, IsTreeRun, no_tree, taken_move, traps}

pub told_steps : (input : List ℕ) (job : RequestedJob) (told : Option (Vec JobStep Global)) → IsRequestedJob true input job →
    MatchOption told (run (programs_of job.programs) (start job.credit job.buffer.items) (map taken_move job.schedule.items) ≡ None)
    (λ steps. AreStepsOf (listings_of job.programs) (programs_of job.programs) (start job.credit job.buffer.items) (map taken_move job.schedule.items) steps.items) →
    MatchOption told (HasNoSteps input) (λ steps. AreStepsPlayed input steps.items)
told_steps input job None is none = traps job is none
told_steps input job (Some steps) is are = record { job = job; is_job = is; are = are }

pub told_tree : (input : List ℕ) (job : RequestedJob) (found : Option Tree) → IsRequestedJob false input job →
    MatchOption found (NoTree (programs_of job.programs) job.credit job.buffer.items)
    (λ tree. IsTree (programs_of job.programs) job.credit job.buffer.items (map finished_of tree.tasks.items)) →
    MatchOption found (HasNoTree input) (λ tree. IsTreeRun input (map finished_of tree.tasks.items))
told_tree input job None is none = no_tree job is none
told_tree input job (Some tree) is comes = record { job = job; is_job = is; is = comes }
