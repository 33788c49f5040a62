use Rattle.server_state.specs.States.{steps_of}
use Rattle.server_state.proofs.ResultLemmas.{held_at_each}
use Rattle.server_state.proofs.result_laws.open_jobs_are_held.Goals as goal

pub returns : goal.returns
returns g c = λ first s events place begun desk happens there last now known are.
    held_at_each (steps_of g.N.JobRunner) g.N.JobEnds.at g.N.JobEnds.ends g.N.JobEnds.refuses g.met.N.JobEnds.runs place first s events begun desk happens there last now known are
