use Rattle.std.proofs.Common.{sym, ap, ◌∙◌, arith}
use mathlib.Core.Option.{none}
use Rattle.atomic_table.specs.Table.{step}
use Rattle.job_pools.proofs.JobSteps.{enters, leaves}
use Rattle.job_pools.proofs.job_register.JobRegister.enter_as.Goals as goal

pub load-requires : goal.load-requires
load-requires g c = (
  c.keeper.invariant.0 ∙ sym c.self.invariant.0,
  (let n = c.self.invariant.1 in omega arith),
  enters _ _ _ (step c.self.inside.table.shared.table_id.slots 0 0 0 none) g.E.JobRule.enters c.requires.free.0
      (ap (λ m. m.0.is_keeper) c.keeper.invariant.1)
      c.requires.free.1
      (rw c.keeper.view_is c.requires.free.2),
)

pub split_seat-seat-requires : goal.split_seat-seat-requires
split_seat-seat-requires g c =
    let loaded = c.load.ensures in (
      loaded.0 ∙ (c.keeper.invariant.0 ∙ sym c.self.invariant.0),
      (let n = c.self.invariant.1 in omega arith),
      leaves _ _,
    )
