use Rattle.std.proofs.Common.{ap, arith}
use Rattle.seat_log.proofs.LogSteps.{leaves}
use Rattle.seat_log.proofs.shared_log.NewLog.named.Goals as goal

pub split_seat-keeping-requires : goal.split_seat-keeping-requires
split_seat-keeping-requires g c =
    let u = c.self.invariant in
    (u.1, (let n = u.0 in omega arith), leaves _ _ (ap (λ m. m.0.is_keeper) u.2))
