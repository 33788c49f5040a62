use Rattle.std.proofs.Common.{sym, ap, ◌∙◌, arith}
use mathlib.Core.Option.{none}
use Rattle.atomic_table.specs.Table.{step}
use Rattle.job_pools.proofs.TurnSeats.{spares, holds, adds, leaves}
use Rattle.job_pools.proofs.turn_history.QueueHistory.add_as.Goals as goal

pub split_seat-spare-requires : goal.split_seat-spare-requires
split_seat-spare-requires g c = (
  c.seat.invariant.0 ∙ sym c.self.invariant.0,
  (let n = c.self.invariant.1 in omega arith),
  spares _ _,
)

pub join_seat-requires : goal.join_seat-requires
join_seat-requires g c =
    let spare = c.split_seat-spare.ensures in
    let held = c.replace-held.ensures.value in
    let recorder = c.recorder.invariant in (
      spare.0 ∙ (c.seat.invariant.0 ∙ sym c.self.invariant.0),
      ap (λ s. s.table_id) held ∙ (recorder.0 ∙ sym c.self.invariant.0),
      ap (λ s. s.me.1) held ∙ ap (λ m. m.1) recorder.1,
      (let n = c.self.invariant.1 in omega arith),
      holds _ _ _ _ (ap (λ s. s.me.0.is_recorder) held ∙ ap (λ m. m.0.is_recorder) recorder.1),
    )

pub load-requires : goal.load-requires
load-requires g c =
    let spare = c.split_seat-spare.ensures in
    let held = c.replace-held.ensures.value in
    let recorder = c.recorder.invariant in
    let joined = c.join_seat.ensures in
    let number = ap (λ m. m.0.number) joined.2 ∙ ap (λ m. m.0.number) spare.2 in (
      joined.0 ∙ (spare.0 ∙ (c.seat.invariant.0 ∙ sym c.self.invariant.0)),
      (let n = c.self.invariant.1 in omega arith),
      adds _ _ _ (step c.self.inside.table.shared.table_id.slots 0 0 0 none) g.E.StepRule.allows c.requires.0
          (ap (λ m. m.0.is_recorder) joined.2 ∙ (ap (λ s. s.me.0.is_recorder) held ∙ ap (λ m. m.0.is_recorder) recorder.1))
          (ap (λ m. m.0.is_end) joined.2 ∙ (ap (λ m. m.0.is_end) spare.2 ∙ ap (λ m. m.0.is_end) c.seat.invariant.1))
          c.requires.1
          (c.requires.2 ∙ (sym (ap (λ k. k.0) c.seat.view_is) ∙ sym number)),
    )

pub split_seat-left-requires : goal.split_seat-left-requires
split_seat-left-requires g c =
    let spare = c.split_seat-spare.ensures in
    let joined = c.join_seat.ensures in
    let loaded = c.load.ensures in (
      loaded.0 ∙ (joined.0 ∙ (spare.0 ∙ (c.seat.invariant.0 ∙ sym c.self.invariant.0))),
      (let n = c.self.invariant.1 in omega arith),
      leaves _ _ (ap (λ m. m.0.is_recorder) loaded.2.3),
    )
