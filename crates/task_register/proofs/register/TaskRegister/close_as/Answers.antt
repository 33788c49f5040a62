use Rattle.std.proofs.Common.{sym, ap, ◌∙◌, arith}
use mathlib.Core.Option.{none}
use Rattle.atomic_table.specs.Table.{step}
use Rattle.task_register.proofs.Steps.{takes, closes}
use Rattle.task_register.proofs.register.TaskRegister.close_as.Goals as goal

pub join_seat-requires : goal.join_seat-requires
join_seat-requires g c = (
  c.self.invariant.2 ∙ sym c.self.invariant.0,
  c.seat.invariant.0 ∙ sym c.self.invariant.0,
  ap (λ m. m.1) c.seat.invariant.1,
  (let n = c.self.invariant.1 in omega arith),
  takes _ _ _ _ (ap (λ m. m.0.is_task) c.seat.invariant.1),
)

pub load-requires : goal.load-requires
load-requires g c =
    let joined = c.join_seat.ensures in (
      joined.0 ∙ (c.self.invariant.2 ∙ sym c.self.invariant.0),
      (let n = c.self.invariant.1 in omega arith),
      closes _ _ _ (step c.self.inside.table.shared.table_id.slots 0 0 0 none) g.E.EndRule.ends c.requires.some.0
          (ap (λ m. m.0.is_keeper) joined.2 ∙ ap (λ m. m.0.is_keeper) c.self.invariant.3)
          (ap (λ m. m.0.is_task) joined.2 ∙ ap (λ m. m.0.is_task) c.seat.invariant.1)
          c.requires.some.1
          (rw c.seat.view_is c.requires.some.2 ∙ sym (ap (λ m. m.0.task) joined.2)),
    )
