use Rattle.run_trace.specs.Spelled.{listings_of, programs_of}
use Rattle.telgovan_c.proofs.ListingLemmas.{AreProgramsTo}
use Rattle.telgovan_c.proofs.job_traces.job_programs.Given as goal

abbrev pub invariant-loop-program : goal.invariant-loop-program
invariant-loop-program l = AreProgramsTo l.programs l.program-index (listings_of l.found) (programs_of l.found)
