use Rattle.job_pool.proofs.FairOrder.{turn_had}
use Rattle.job_pool.proofs.fair_laws.each_flow_has_its_turn.Goals as goal

pub returns : goal.returns
returns g c = turn_had
