use Rattle.std.proofs.Common.{◌≡◌, map, drop, take, Some}
use Rattle.machine_model.specs.JobState.{run}
use Rattle.reference.specs.Records.{job_of, move_of}
use Rattle.run_trace.specs.Spelled.{listings_of, programs_of}
use Rattle.run_trace.specs.JobSteps.{AreJobSteps}
use Rattle.run_trace.proofs.job_tracing.trace_job.Given as goal

abbrev pub invariant-loop-entry : goal.invariant-loop-entry
invariant-loop-entry l = record {
  rest : run (programs_of l.programs) (job_of l.job) (drop l.entry-index (map move_of l.moves))
      ≡ run (programs_of l.programs) (job_of l.initial.job) (map move_of l.moves);
  done : run (programs_of l.programs) (job_of l.initial.job) (take l.entry-index (map move_of l.moves)) ≡ Some (job_of l.job);
  told : AreJobSteps (listings_of l.programs) (programs_of l.programs) (job_of l.initial.job) (take l.entry-index (map move_of l.moves)) l.steps.items (job_of l.job);
}
