use Rattle.std.proofs.Common.{◌<◌, sym, ◌∙◌, arith, length, subst}
use Rattle.task_register.specs.Register.{RegisterModel}
use Rattle.task_register.proofs.Steps.{leaves_first}
use Rattle.task_register.proofs.register.TaskRegister.claim.Goals as goal

pub split_seat-seat-requires : goal.split_seat-seat-requires
split_seat-seat-requires g c =
    let more : 0 < length c.self.inside.seat.me.0.waiting = subst (λ (r : RegisterModel). 0 < length r.waiting) (sym c.self.view_is) c.requires in (
      c.self.invariant.2 ∙ sym c.self.invariant.0,
      (let n = c.self.invariant.1 in omega arith),
      leaves_first _ _ more,
    )
