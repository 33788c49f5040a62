use Rattle.server_state.specs.States.{steps_of}
use Rattle.server_state.proofs.NumberLemmas.{rises_at_each}
use Rattle.server_state.proofs.result_laws.numbers_rise.Goals as goal

pub returns : goal.returns
returns g c = λ first s events place begun desk happens there last at before between after e f m n is short new_e sent_e small_m new_f sent_f small_n.
    rises_at_each (steps_of g.N.JobRunner) first s events place begun desk happens there last at before between after e f m n is short new_e sent_e small_m new_f sent_f small_n
