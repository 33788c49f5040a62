use Rattle.run_trace.specs.Spelled.{listings_of, programs_of}
use Rattle.bpfjobs_cli.proofs.Spelling.{AreSpelledTo}
use Rattle.bpfjobs_cli.proofs.requested_job.job_programs.Given as goal

abbrev pub invariant-loop-program : goal.invariant-loop-program
invariant-loop-program l = AreSpelledTo l.programs l.program-index (listings_of l.found) (programs_of l.found)
