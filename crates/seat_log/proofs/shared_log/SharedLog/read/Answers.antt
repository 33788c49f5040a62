use Rattle.std.proofs.Common.{sym, ap, ◌∙◌, arith}
use mathlib.Core.Option.{none}
use Rattle.atomic_table.specs.Table.{step}
use Rattle.seat_log.proofs.LogSteps.{takes_note, reads, leaves_note}
use Rattle.seat_log.proofs.shared_log.SharedLog.read.Goals as goal

pub join_seat-requires : goal.join_seat-requires
join_seat-requires g c = (
  c.seat.invariant.0 ∙ sym c.self.invariant.0,
  c.note.invariant.0 ∙ sym c.self.invariant.0,
  ap (λ m. m.1) c.note.invariant.1,
  (let n = c.self.invariant.1 in omega arith),
  takes_note _ _ _ _,
)

pub load-requires : goal.load-requires
load-requires g c =
    let joined = c.join_seat.ensures in (
      joined.0 ∙ (c.seat.invariant.0 ∙ sym c.self.invariant.0),
      (let n = c.self.invariant.1 in omega arith),
      reads _ _ _ (step c.self.inside.table.shared.table_id.slots 0 0 0 none)
          (ap (λ m. m.0.is_seat) joined.2 ∙ ap (λ m. m.0.is_seat) c.seat.invariant.1)
          (ap (λ m. m.0.is_note) joined.2 ∙ ap (λ m. m.0.is_note) c.note.invariant.1),
    )

pub split_seat-requires : goal.split_seat-requires
split_seat-requires g c =
    let joined = c.join_seat.ensures in
    let loaded = c.load.ensures in (
      loaded.0 ∙ (joined.0 ∙ (c.seat.invariant.0 ∙ sym c.self.invariant.0)),
      (let n = c.self.invariant.1 in omega arith),
      leaves_note _ _,
    )
