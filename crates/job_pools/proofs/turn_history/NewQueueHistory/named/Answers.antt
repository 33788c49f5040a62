use Rattle.std.proofs.Common.{ap, arith}
use Rattle.job_pools.proofs.TurnSeats.{leaves}
use Rattle.job_pools.proofs.turn_history.NewQueueHistory.named.Goals as goal

pub split_seat-recording-requires : goal.split_seat-recording-requires
split_seat-recording-requires g c =
    let u = c.self.invariant in
    (u.1, (let n = u.0 in omega arith), leaves _ _ (ap (λ m. m.0.is_recorder) u.2))
