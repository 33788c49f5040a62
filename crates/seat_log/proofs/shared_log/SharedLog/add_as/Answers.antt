use Rattle.std.proofs.Common.{sym, ap, ◌∙◌, arith}
use mathlib.Core.Option.{none}
use Rattle.atomic_table.specs.Table.{step}
use Rattle.seat_log.proofs.LogSteps.{spares, holds, adds, leaves}
use Rattle.seat_log.proofs.shared_log.SharedLog.add_as.Goals as goal

pub split_seat-spare-requires : goal.split_seat-spare-requires
split_seat-spare-requires g c = (
  c.seat.invariant.0 ∙ sym c.self.invariant.0,
  (let n = c.self.invariant.1 in omega arith),
  spares _ _,
)

pub join_seat-requires : goal.join_seat-requires
join_seat-requires g c =
    let spare = c.split_seat-spare.ensures in
    let held = c.replace-held.ensures.value in
    let keeper = c.keeper.invariant in (
      spare.0 ∙ (c.seat.invariant.0 ∙ sym c.self.invariant.0),
      ap (λ s. s.table_id) held ∙ (keeper.0 ∙ sym c.self.invariant.0),
      ap (λ s. s.me.1) held ∙ ap (λ m. m.1) keeper.1,
      (let n = c.self.invariant.1 in omega arith),
      holds _ _ _ _ (ap (λ s. s.me.0.is_keeper) held ∙ ap (λ m. m.0.is_keeper) keeper.1),
    )

pub load-requires : goal.load-requires
load-requires g c =
    let spare = c.split_seat-spare.ensures in
    let held = c.replace-held.ensures.value in
    let keeper = c.keeper.invariant in
    let joined = c.join_seat.ensures in (
      joined.0 ∙ (spare.0 ∙ (c.seat.invariant.0 ∙ sym c.self.invariant.0)),
      (let n = c.self.invariant.1 in omega arith),
      adds _ _ _ (step c.self.inside.table.shared.table_id.slots 0 0 0 none) g.P.Picks.picks c.requires.0
          (ap (λ m. m.0.is_keeper) joined.2 ∙ (ap (λ s. s.me.0.is_keeper) held ∙ ap (λ m. m.0.is_keeper) keeper.1))
          (ap (λ m. m.0.is_seat) joined.2 ∙ (ap (λ m. m.0.is_seat) spare.2 ∙ ap (λ m. m.0.is_seat) c.seat.invariant.1))
          c.requires.1,
    )

pub split_seat-left-requires : goal.split_seat-left-requires
split_seat-left-requires g c =
    let spare = c.split_seat-spare.ensures in
    let joined = c.join_seat.ensures in
    let loaded = c.load.ensures in (
      loaded.0 ∙ (joined.0 ∙ (spare.0 ∙ (c.seat.invariant.0 ∙ sym c.self.invariant.0))),
      (let n = c.self.invariant.1 in omega arith),
      leaves _ _ (ap (λ m. m.0.is_keeper) loaded.2.2),
    )
