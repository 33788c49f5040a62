use Rattle.std.proofs.Common.{List, ap, sym, subst, ◌∙◌}
use Rattle.credit_book.specs.declared.task.Ticket.{Ticket}
use Rattle.task_register.specs.Register.{RegisterModel}
use Rattle.workers.specs.Locked.{AreSeats, IsJustSpawned, TellsSpawnRefusal}
use Rattle.workers.proofs.NoRefusals.{just_spawned, queued_spawn}
use Rattle.workers.proofs.RegisterSteps.{spawned}
use Rattle.workers.proofs.locked_book.LockedBook.spawn.Goals as goal

pub invariant_of-self : goal.invariant_of-self
invariant_of-self g c =
    let done = c.in-Ok.ensures.done in
    let inv = c.self.invariant in
    let register = c.add_child-seat.ensures.register in (
      spawned _ _ c.self.inside.book.board.job c.args.parent c.self.inside.register.known c.add_child-seat.new.self.known c.self.inside.book.history
          c.spawn.new.self.history c.args.child c.in-Ok.ticket c.args.seat.number inv.0 done.4 c.in-Ok.ensures.legal done.3 c.requires (ap (λ (r : RegisterModel). r.known) register),
      subst (λ (l : List Ticket). AreSeats _ l c.add_child-seat.new.self.waiting) (sym done.2)
          (subst (λ ss. AreSeats _ c.self.inside.book.waiting ss) (sym (ap (λ (r : RegisterModel). r.waiting) register)) inv.1),
      done.0 ∙ inv.2,
      done.1 ∙ inv.3,
      queued_spawn c.self.inside.book.history c.spawn.new.self.history c.args.parent _ c.args.child c.self.inside.book.waiting c.spawn.new.self.waiting done.4 done.2 inv.4,
      subst (λ (r : RegisterModel). TellsSpawnRefusal c.self.inside.refused r.known.over) (sym register) inv.5,
    )

pub returns-in-Ok-clause-fresh : goal.returns-in-Ok-clause-fresh
returns-in-Ok-clause-fresh g c =
    let done = c.in-Ok.ensures.done in
    let number = c.new.ensures ∙ done.3 in
    subst (λ n. IsJustSpawned c.spawn.new.self n) (sym (ap (λ (t : Ticket). t.number) number))
    (just_spawned c.self.inside.book.history c.spawn.new.self.history c.args.parent c.args.child done.4)
