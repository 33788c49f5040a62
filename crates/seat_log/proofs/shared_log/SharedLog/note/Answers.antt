use Rattle.std.proofs.Common.{sym, ap, ◌∙◌, arith}
use Rattle.seat_log.proofs.LogSteps.{notes}
use Rattle.seat_log.proofs.shared_log.SharedLog.note.Goals as goal

pub split_seat-note-requires : goal.split_seat-note-requires
split_seat-note-requires g c =
    let o = c.seat.invariant in (
      o.0 ∙ sym c.self.invariant.0,
      (let n = c.self.invariant.1 in omega arith),
      notes _ _ (ap (λ m. m.0.is_seat) o.1),
    )
