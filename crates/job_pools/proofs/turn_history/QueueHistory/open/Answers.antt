use Rattle.std.proofs.Common.{sym, ap, ◌∙◌, arith}
use Rattle.job_pools.proofs.TurnSeats.{opens}
use Rattle.job_pools.proofs.turn_history.QueueHistory.open.Goals as goal

pub split_seat-seat-requires : goal.split_seat-seat-requires
split_seat-seat-requires g c =
    let o = c.opener.invariant in (
      o.0 ∙ sym c.self.invariant.0,
      (let n = c.self.invariant.1 in omega arith),
      opens _ _ (ap (λ m. m.0.is_opener) o.1) (ap (λ m. m.0.is_end) o.1),
    )
