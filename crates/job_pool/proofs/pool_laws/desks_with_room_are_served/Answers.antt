use Rattle.job_pool.proofs.Histories.{room_is_served}
use Rattle.job_pool.proofs.pool_laws.desks_with_room_are_served.Goals as goal

pub returns : goal.returns
returns c = room_is_served
