use Rattle.recovery.proofs.HistoryLemmas.{after_on}
use Rattle.recovery.proofs.laws.histories_go_on.Goals as goal

pub returns : goal.returns
returns g c = after_on g.M.StateMachine.starts g.M.StateMachine.steps
