use Rattle.std.proofs.Common.{refl}
use Rattle.seat_log.proofs.shared_log.SharedLog.add.Goals as goal

pub add_as-requires : goal.add_as-requires
add_as-requires g c = (g.T.Logged.entry c.args.item.now, refl)
