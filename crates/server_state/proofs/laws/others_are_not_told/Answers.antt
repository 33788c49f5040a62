use Rattle.server_state.specs.States.{steps_of}
use Rattle.server_state.proofs.AlikeHistories.{sent_alike}
use Rattle.server_state.proofs.laws.others_are_not_told.Goals as goal

pub returns : goal.returns
returns g c = λ begun waiting others r q first second s t h k same. sent_alike (steps_of g.N.JobRunner) begun waiting others r q first second s t h k same
