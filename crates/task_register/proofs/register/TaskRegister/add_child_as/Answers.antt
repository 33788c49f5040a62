use Rattle.std.proofs.Common.{sym, ap, ◌∙◌, arith}
use mathlib.Core.Option.{none}
use Rattle.atomic_table.specs.Table.{step}
use Rattle.task_register.proofs.Steps.{takes, enters_child, leaves_child, leaves_task}
use Rattle.task_register.proofs.register.TaskRegister.add_child_as.Goals as goal

pub join_seat-requires : goal.join_seat-requires
join_seat-requires g c = (
  c.self.invariant.2 ∙ sym c.self.invariant.0,
  c.parent.invariant.0 ∙ sym c.self.invariant.0,
  ap (λ m. m.1) c.parent.invariant.1,
  (let n = c.self.invariant.1 in omega arith),
  takes _ _ _ _ (ap (λ m. m.0.is_task) c.parent.invariant.1),
)

pub load-requires : goal.load-requires
load-requires g c =
    let joined = c.join_seat.ensures in (
      joined.0 ∙ (c.self.invariant.2 ∙ sym c.self.invariant.0),
      (let n = c.self.invariant.1 in omega arith),
      enters_child _ _ _ (step c.self.inside.table.shared.table_id.slots 0 0 0 none) g.E.StartRule.enters c.requires.some.0
          (ap (λ m. m.0.is_keeper) joined.2 ∙ ap (λ m. m.0.is_keeper) c.self.invariant.3)
          (ap (λ m. m.0.is_task) joined.2 ∙ ap (λ m. m.0.is_task) c.parent.invariant.1)
          c.requires.some.1
          (rw c.parent.view_is c.requires.some.2 ∙ sym (ap (λ m. m.0.task.number) joined.2)),
    )

pub split_seat-child-requires : goal.split_seat-child-requires
split_seat-child-requires g c =
    let joined = c.join_seat.ensures in
    let loaded = c.load.ensures in (
      loaded.0 ∙ (joined.0 ∙ (c.self.invariant.2 ∙ sym c.self.invariant.0)),
      (let n = c.self.invariant.1 in omega arith),
      leaves_child _ _ (ap (λ m. m.0.has_child) loaded.2.2),
    )

pub split_seat-parent-requires : goal.split_seat-parent-requires
split_seat-parent-requires g c =
    let joined = c.join_seat.ensures in
    let loaded = c.load.ensures in
    let split = c.split_seat-child.ensures in (
      split.0 ∙ (loaded.0 ∙ (joined.0 ∙ (c.self.invariant.2 ∙ sym c.self.invariant.0))),
      (let n = c.self.invariant.1 in omega arith),
      leaves_task _ _ (ap (λ m. m.0.is_task) split.2 ∙ (ap (λ m. m.0.is_task) loaded.2.2 ∙ (ap (λ m. m.0.is_task) joined.2 ∙ ap (λ m. m.0.is_task) c.parent.invariant.1))),
    )
