use Rattle.server_state.specs.States.{steps_of}
use Rattle.server_state.proofs.StayLemmas.{stays_at_each}
use Rattle.server_state.proofs.result_laws.results_stay.Goals as goal

pub returns : goal.returns
returns g c = λ first s events place begun desk happens there at before between after e f number is asks_e asks_f. stays_at_each (steps_of g.N.JobRunner) first s events place begun desk happens there at before between after e f number is asks_e asks_f
