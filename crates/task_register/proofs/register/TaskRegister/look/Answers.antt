use Rattle.std.proofs.Common.{sym, ap, ◌∙◌, arith}
use mathlib.Core.Option.{none}
use Rattle.atomic_table.specs.Table.{step}
use Rattle.task_register.proofs.Steps.{finds}
use Rattle.task_register.proofs.register.TaskRegister.look.Goals as goal

pub load-requires : goal.load-requires
load-requires g c = (
  c.self.invariant.2 ∙ sym c.self.invariant.0,
  (let n = c.self.invariant.1 in omega arith),
  finds _ _ _ (step c.self.inside.table.shared.table_id.slots 0 0 0 none) (ap (λ m. m.0.is_keeper) c.self.invariant.3),
)
