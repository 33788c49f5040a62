use Rattle.server_state.specs.States.{steps_of}
use Rattle.server_state.proofs.AloneLemmas.{each_alone}
use Rattle.server_state.proofs.laws.each_tenant_is_alone.Goals as goal

pub returns : goal.returns
returns g c = λ first s events place begun desk happens there at. each_alone (steps_of g.N.JobRunner) place first begun there events s desk happens at
