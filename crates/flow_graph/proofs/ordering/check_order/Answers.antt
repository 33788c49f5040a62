use Rattle.std.proofs.Common.{ℕ, ◌<◌, length, arith, refl}
use Rattle.machine_model.specs.Edges.{Begins}
use Rattle.flow_graph.specs.Places.{IsPlaced}
use Rattle.flow_graph.proofs.CodeLemmas.{begins_below, laid_of, so, not_so}
use Rattle.flow_graph.proofs.Joining.{joined_of}
use Rattle.flow_graph.proofs.Lists.{next_all}
use Rattle.flow_graph.proofs.PlaceLemmas.{order_of_places, placed_of_order}
use Rattle.flow_graph.proofs.ordering.check_order.Goals as goal
use Rattle.flow_graph.proofs.ordering.check_order.Goals.{then-begins_at+else-not-is_placed, else-begins_at}

pub is_placed-requires-clause-joined : goal.is_placed-requires-clause-joined
is_placed-requires-clause-joined c =
    rw (c.deref-then-begins_at.ensures.value, c.in_ok-code.ensures) (joined_of _ (laid_of _ c.requires.decoded) c.requires.faultless)

pub returns-then-not-is_placed : goal.returns-then-not-is_placed
returns-then-not-is_placed c = rw (← c.in_ok-code.ensures) (
  λ yes. absurd (cc),
  λ order. absurd (not_so _ (rw (c.deref-then-begins_at.ensures.value, c.deref-then-begins_at-2.ensures.value) at c.is_placed.ensures)
      c.if-not-is_placed.true
      (placed_of_order c.in_ok-code.code.items c.args.order.now c.in-Some.places.items c.loop-slot.slot
      (rw c.in_ok-code.ensures (joined_of _ (laid_of _ c.requires.decoded) c.requires.faultless))
      (rw (c.in-Some.is, c.deref.ensures.value) at c.in_ok-places.ensures)
      (so _ (rw c.deref-in-loop-slot.ensures.value at c.begins_at.ensures) c.if-begins_at.true) order)),
)

pub loop-slot-preserved : goal.loop-slot-preserved
loop-slot-preserved c = elim c.if-begins_at.branch [
  | then-begins_at+else-not-is_placed w ↦
      next_all (λ (s : ℕ). Begins c.in_ok-code.code.items s → IsPlaced c.in_ok-code.code.items c.in-Some.places.items s) c.loop-slot.slot
      c.loop-slot.invariant
      (λ begins. so _ (rw (w.deref-then-begins_at.ensures.value, w.deref-then-begins_at-2.ensures.value) at w.is_placed.ensures) w.if-not-is_placed.false)
  | else-begins_at w ↦
      next_all (λ (s : ℕ). Begins c.in_ok-code.code.items s → IsPlaced c.in_ok-code.code.items c.in-Some.places.items s) c.loop-slot.slot
      c.loop-slot.invariant
      (λ begins. absurd (not_so _ (rw c.deref-in-loop-slot.ensures.value at c.begins_at.ensures) w.if-begins_at.false begins))
]

pub returns : goal.returns
returns c = rw (← c.in_ok-code.ensures) (
  λ yes. order_of_places c.in_ok-code.code.items c.args.order.now c.in-Some.places.items
      (rw (c.in-Some.is, c.deref.ensures.value) at c.in_ok-places.ensures)
      (λ s b.
      let lt : s < length c.in_ok-code.code.items = begins_below c.in_ok-code.code.items s b in
      let below : s < c.loop-slot.slot = omega arith in
      c.loop-slot.invariant s below b),
  λ order. refl,
)
