use Rattle.std.proofs.Common.{[]}
use Rattle.job_pool.proofs.FairOrder.{order_kept}
use Rattle.job_pool.proofs.fair_laws.flows_keep_their_order.Goals as goal

pub returns : goal.returns
returns g c = λ history waits flow leads. order_kept flow history [] waits tt leads
