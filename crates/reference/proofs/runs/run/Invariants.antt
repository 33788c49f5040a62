use Rattle.std.proofs.Common.{◌≡◌, map, drop, take, Some}
use Rattle.machine_model.specs.JobState.{run}
use Rattle.reference.specs.Records.{job_of, move_of, program_of}
use Rattle.reference.proofs.runs.run.Given as goal

abbrev pub invariant-loop-entry : goal.invariant-loop-entry
invariant-loop-entry l = record {
  rest : run (map program_of l.programs) (job_of l.job) (drop l.entry-index (map move_of l.moves))
      ≡ run (map program_of l.programs) (job_of l.initial.job) (map move_of l.moves);
  done : run (map program_of l.programs) (job_of l.initial.job) (take l.entry-index (map move_of l.moves)) ≡ Some (job_of l.job);
}
