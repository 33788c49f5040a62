use Rattle.std.proofs.Common.{ap, refl}
use Rattle.task_register.specs.Register.{RegisterModel}
use Rattle.workers.proofs.RegisterSteps.{opened}
use Rattle.workers.proofs.locked_book.LockedBook.open.Goals as goal

pub invariant_of-desk : goal.invariant_of-desk
invariant_of-desk g c = (
  opened _ _ g.J.JobId.root c.args.register.known c.args.book.history c.requires.root.0 c.requires.root.1 c.requires.root.2
      (ap (λ (r : RegisterModel). r.known) c.requires.register) c.requires.opened,
  rw (c.requires.none, c.requires.register) tt,
  c.requires.board,
  c.requires.size,
  rw (c.requires.none, c.requires.opened) refl,
  rw c.requires.register (λ none. tt, λ each. refl),
)
