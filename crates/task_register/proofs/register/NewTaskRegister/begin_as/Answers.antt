use Rattle.std.proofs.Common.{ap, ◌∙◌, arith}
use mathlib.Core.Option.{none}
use Rattle.atomic_table.specs.Table.{step}
use Rattle.task_register.proofs.Steps.{enters_root, leaves_child}
use Rattle.task_register.proofs.register.NewTaskRegister.begin_as.Goals as goal

pub load-requires : goal.load-requires
load-requires g c = (
  c.self.invariant.1,
  (let n = c.self.invariant.0 in omega arith),
  enters_root _ _ _ (step c.self.inside.table.shared.table_id.slots 0 0 0 none) g.E.StartRule.enters c.requires.some.0
      (ap (λ m. m.0.is_keeper) c.self.invariant.2)
      c.requires.some.1
      (ap (λ m. m.0.known.starts) c.self.invariant.2),
)

pub split_seat-root-requires : goal.split_seat-root-requires
split_seat-root-requires g c =
    let loaded = c.load.ensures in (
      loaded.0 ∙ c.self.invariant.1,
      (let n = c.self.invariant.0 in omega arith),
      leaves_child _ _ (ap (λ m. m.0.has_child) loaded.2.2),
    )
