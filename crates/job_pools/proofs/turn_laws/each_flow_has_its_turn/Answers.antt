use Rattle.job_pools.proofs.TurnOrder.{turn_had}
use Rattle.job_pools.proofs.turn_laws.each_flow_has_its_turn.Goals as goal

pub returns : goal.returns
returns g c = turn_had
