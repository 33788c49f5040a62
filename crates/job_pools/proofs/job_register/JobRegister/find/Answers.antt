use Rattle.std.proofs.Common.{sym, ap, ◌∙◌, arith}
use mathlib.Core.Option.{none}
use Rattle.atomic_table.specs.Table.{step}
use Rattle.job_pools.proofs.JobSteps.{takes, finds, leaves}
use Rattle.job_pools.proofs.job_register.JobRegister.find.Goals as goal

pub join_seat-requires : goal.join_seat-requires
join_seat-requires g c = (
  c.keeper.invariant.0 ∙ sym c.self.invariant.0,
  c.seat.invariant.0 ∙ sym c.self.invariant.0,
  ap (λ m. m.1) c.seat.invariant.1,
  (let n = c.self.invariant.1 in omega arith),
  takes _ _ _ _,
)

pub load-requires : goal.load-requires
load-requires g c =
    let joined = c.join_seat.ensures in (
      joined.0 ∙ (c.keeper.invariant.0 ∙ sym c.self.invariant.0),
      (let n = c.self.invariant.1 in omega arith),
      finds _ _ _ (step c.self.inside.table.shared.table_id.slots 0 0 0 none)
          (ap (λ m. m.0.is_keeper) joined.2 ∙ ap (λ m. m.0.is_keeper) c.keeper.invariant.1)
          (ap (λ m. m.0.is_job) joined.2 ∙ ap (λ m. m.0.is_job) c.seat.invariant.1),
    )

pub split_seat-requires : goal.split_seat-requires
split_seat-requires g c =
    let joined = c.join_seat.ensures in
    let loaded = c.load.ensures in (
      loaded.0 ∙ (joined.0 ∙ (c.keeper.invariant.0 ∙ sym c.self.invariant.0)),
      (let n = c.self.invariant.1 in omega arith),
      leaves _ _,
    )
