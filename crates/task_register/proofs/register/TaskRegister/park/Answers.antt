use Rattle.std.proofs.Common.{sym, ap, ◌∙◌, arith}
use Rattle.task_register.proofs.Steps.{keeps_task}
use Rattle.task_register.proofs.register.TaskRegister.park.Goals as goal

pub join_seat-requires : goal.join_seat-requires
join_seat-requires g c = (
  c.self.invariant.2 ∙ sym c.self.invariant.0,
  c.seat.invariant.0 ∙ sym c.self.invariant.0,
  ap (λ m. m.1) c.seat.invariant.1,
  (let n = c.self.invariant.1 in omega arith),
  keeps_task _ _ _ _ (ap (λ m. m.0.is_task) c.seat.invariant.1),
)
