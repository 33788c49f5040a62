use Rattle.server_state.specs.States.{steps_of}
use Rattle.server_state.proofs.KeyedLemmas.{keys_at_each}
use Rattle.server_state.proofs.laws.one_key_one_job.Goals as goal

pub returns : goal.returns
returns g c = λ first s events place begun desk happens there last at. keys_at_each (steps_of g.N.JobRunner) first s events place begun desk happens there last at
