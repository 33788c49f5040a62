use Rattle.std.proofs.Common.{◌≡◌, ◌-◌, ◌<◌, suc, ℕ, length, replicate, false, subst, arith, rules}
use Rattle.machine_model.proofs.Codes.{begins_within}
use Rattle.explain.specs.Leading.{LeadFrom}
use Rattle.explain.proofs.LeadingLemmas.{lead_all, lead_first, lead_marked, lead_unmarked}
use Rattle.explain.proofs.leading.leading.Goals as goal

pub loop-place-init : goal.loop-place-init
loop-place-init c =
    let none : c.in_ok-marks.marks.items ≡ replicate (length c.args.graph.now.code) false = search rules in
    let long : length c.in_ok-marks.marks.items ≡ length c.args.graph.now.code = omega (arith, c.in_ok-marks.ensures.len, c.slots-slots.ensures.slots, c.in_ok-marks.marks.ok.0) in
    rw c.order-order.ensures.order (record {
      few = omega arith;
      marked = lead_first c.args.graph.now.code c.args.graph.now.order c.args.slot c.in_ok-marks.marks.items none long
          (begins_within c.args.graph.now.code c.args.slot c.requires.begins);
    })

pub offset_bounds-order-place : goal.offset_bounds-order-place
offset_bounds-order-place c =
    omega (arith, c.loop-place.invariant.few, c.slots-slots.ensures.flow.short, c.slots-slots.ensures.flow.joined.few)

pub bounds-order-place : goal.bounds-order-place
bounds-order-place c = rw c.order-order.ensures.order (omega (arith, c.loop-place-test.true, c.loop-place.invariant.few))

pub marked_after-requires-clause-begins : goal.marked_after-requires-clause-begins
marked_after-requires-clause-begins c =
    let within : c.loop-place.place - 1 < length c.args.graph.now.order = omega (arith, c.loop-place-test.true, c.loop-place.invariant.few) in
    rw c.order-order.ensures.order (c.slots-slots.ensures.flow.order.begins (c.loop-place.place - 1) within)

pub marked_after-requires-clause-slots : goal.marked_after-requires-clause-slots
marked_after-requires-clause-slots c = rw c.deref.ensures.value c.loop-place.invariant.marked.slots

pub loop-place-preserved-in-None : goal.loop-place-preserved-in-None
loop-place-preserved-in-None c =
    let within : c.loop-place.place - 1 < length c.args.graph.now.order = omega (arith, c.loop-place-test.true, c.loop-place.invariant.few) in
    let next : c.loop-place.place ≡ suc (c.loop-place.place - 1) = omega (arith, c.loop-place-test.true) in
    record {
      few = omega (arith, c.loop-place.invariant.few);
      marked = lead_unmarked c.args.graph.now.code c.args.graph.now.order c.args.slot (c.loop-place.place - 1) c.loop-place.marks.items c.slots-slots.ensures.flow within
          (subst (λ (n : ℕ). LeadFrom c.args.graph.now.code c.args.graph.now.order c.args.slot n c.loop-place.marks.items) next c.loop-place.invariant.marked)
          (rw (c.order-order.ensures.order, c.deref.ensures.value) at c.in-None.ensures);
    }

pub index_mut-requires-in-Some : goal.index_mut-requires-in-Some
index_mut-requires-in-Some c =
    let within : c.loop-place.place - 1 < length c.args.graph.now.order = omega (arith, c.loop-place-test.true, c.loop-place.invariant.few) in
    let below = begins_within c.args.graph.now.code _ (c.slots-slots.ensures.flow.order.begins (c.loop-place.place - 1) within) in
    rw c.order-order.ensures.order (omega (arith, below, c.loop-place.invariant.marked.slots, c.loop-place.marks.ok.0))

pub loop-place-preserved : goal.loop-place-preserved
loop-place-preserved c =
    let within : c.loop-place.place - 1 < length c.args.graph.now.order = omega (arith, c.loop-place-test.true, c.loop-place.invariant.few) in
    let below = begins_within c.args.graph.now.code _ (c.slots-slots.ensures.flow.order.begins (c.loop-place.place - 1) within) in
    let next : c.loop-place.place ≡ suc (c.loop-place.place - 1) = omega (arith, c.loop-place-test.true) in
    let found = rw (c.order-order.ensures.order, c.deref.ensures.value) at c.in-Some.ensures in
    rw c.order-order.ensures.order (record {
      few = omega (arith, c.loop-place.invariant.few);
      marked = lead_marked c.args.graph.now.code c.args.graph.now.order c.args.slot (c.loop-place.place - 1) c.in-Some.field-0 c.loop-place.marks.items below
          (subst (λ (n : ℕ). LeadFrom c.args.graph.now.code c.args.graph.now.order c.args.slot n c.loop-place.marks.items) next c.loop-place.invariant.marked) found.0 found.1;
    })

pub returns : goal.returns
returns c =
    let none : c.loop-place.place ≡ 0 = omega (arith, c.loop-place-test.false) in
    lead_all c.args.graph.now.code c.args.graph.now.order c.args.slot c.loop-place.marks.items c.slots-slots.ensures.flow c.requires.begins
    (subst (λ (n : ℕ). LeadFrom c.args.graph.now.code c.args.graph.now.order c.args.slot n c.loop-place.marks.items) none c.loop-place.invariant.marked)
