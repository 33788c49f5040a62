use Rattle.std.proofs.Common.{◌∙◌}
use Rattle.workers.proofs.NoRefusals.{queued_park}
use Rattle.workers.proofs.RegisterSteps.{has_parked, seats_push}
use Rattle.workers.proofs.locked_book.LockedBook.park.Goals as goal

pub invariant_of-self : goal.invariant_of-self
invariant_of-self g c =
    let done = c.in-Ok.ensures.done in
    let inv = c.self.invariant in
    rw c.park-in-Ok.ensures (
      has_parked _ _ _ c.self.inside.register.known c.self.inside.book.history c.park.new.self.history inv.0 done.4 c.in-Ok.ensures.legal,
      rw (done.2, c.into_parts-ticket.ensures.ticket)
          (seats_push _ c.self.inside.book.waiting c.self.inside.register.waiting c.args.seated _ inv.1 c.into_parts-ticket.ensures.seat c.into_parts-ticket.ensures.job),
      done.0 ∙ inv.2,
      done.1 ∙ inv.3,
      queued_park c.self.inside.book.history c.park.new.self.history _ c.self.inside.book.waiting c.park.new.self.waiting done.4 done.2 inv.4,
      inv.5,
    )
