use Rattle.std.proofs.Common.{sym, ap, ◌∙◌, arith}
use Rattle.seat_log.proofs.LogSteps.{opens}
use Rattle.seat_log.proofs.shared_log.SharedLog.open.Goals as goal

pub split_seat-seat-requires : goal.split_seat-seat-requires
split_seat-seat-requires g c =
    let o = c.opener.invariant in (
      o.0 ∙ sym c.self.invariant.0,
      (let n = c.self.invariant.1 in omega arith),
      opens _ _ (ap (λ m. m.0.is_opener) o.1) (ap (λ m. m.0.is_seat) o.1),
    )
