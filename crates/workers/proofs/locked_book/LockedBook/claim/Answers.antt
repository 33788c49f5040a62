use Rattle.std.proofs.Common.{sym, subst, ◌∙◌}
use Rattle.job_answer.specs.Agreement.{RegisterAgrees}
use Rattle.task_register.specs.declared.seats.RegisterState.{RegisterState}
use Rattle.workers.specs.Locked.{TellsSpawnRefusal}
use Rattle.workers.proofs.NoRefusals.{queued_claim}
use Rattle.workers.proofs.RegisterSteps.{claimed, seats_first, seats_more, seats_rest}
use Rattle.workers.proofs.locked_book.LockedBook.claim.Goals as goal

pub claim-seat-requires : goal.claim-seat-requires
claim-seat-requires g c = seats_more _ c.self.inside.book.waiting c.claim.new.self.waiting c.self.inside.register.waiting _ c.in-Some.ensures.some.2 c.self.invariant.1

pub new-requires-clause-seat : goal.new-requires-clause-seat
new-requires-clause-seat g c =
    (seats_first _ c.self.inside.book.waiting c.claim.new.self.waiting c.self.inside.register.waiting c.claim-seat.new.self.waiting _ _ c.in-Some.ensures.some.2
    c.claim-seat.ensures.first c.self.invariant.1).0

pub new-requires-clause-job : goal.new-requires-clause-job
new-requires-clause-job g c =
    (seats_first _ c.self.inside.book.waiting c.claim.new.self.waiting c.self.inside.register.waiting c.claim-seat.new.self.waiting _ _ c.in-Some.ensures.some.2
    c.claim-seat.ensures.first c.self.invariant.1).1

pub invariant_of-self : goal.invariant_of-self
invariant_of-self g c =
    let some = c.in-Some.ensures.some in
    let inv = c.self.invariant in (
      subst (λ known. RegisterAgrees known c.claim.new.self.history) (sym c.claim-seat.ensures.known)
          (claimed _ _ _ _ _ c.self.inside.register.known c.self.inside.book.history c.claim.new.self.history inv.0 c.job.ensures.legal some.3 c.in-Some.ensures.legal),
      seats_rest _ c.self.inside.book.waiting c.claim.new.self.waiting c.self.inside.register.waiting c.claim-seat.new.self.waiting _ _ some.2 c.claim-seat.ensures.first inv.1,
      some.0 ∙ inv.2,
      some.1 ∙ inv.3,
      queued_claim c.self.inside.book.history c.claim.new.self.history _ c.self.inside.book.waiting c.claim.new.self.waiting some.3 some.2 inv.4,
      subst (λ (known : RegisterState). TellsSpawnRefusal c.self.inside.refused known.over) (sym c.claim-seat.ensures.known) inv.5,
    )
