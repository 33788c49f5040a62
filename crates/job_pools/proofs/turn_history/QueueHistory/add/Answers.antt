use Rattle.std.proofs.Common.{refl}
use Rattle.job_pools.proofs.turn_history.QueueHistory.add.Goals as goal

pub add_as-requires : goal.add_as-requires
add_as-requires g c = (
  record { end = c.args.seat.now.0; is_put = c.args.is_put; flow = c.args.flow; job = g.T.OfJob.job c.args.item.now.value },
  (refl, refl, refl),
  refl,
)

pub returns : goal.returns
returns g c =
    let n = c.add_as.ensures in
    (n.0, n.1.0, n.1.1, n.1.2, n.3, n.4)
