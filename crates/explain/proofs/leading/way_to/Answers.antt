use Rattle.std.proofs.Common.{◌<◌, length, subst, add-one}
use Rattle.machine_model.specs.Edges.{Begins}
use Rattle.explain.proofs.LeadingLemmas.{come_end, come_on, come_past, come_start, come_there, never_stuck}
use Rattle.explain.proofs.leading.way_to.Goals as goal
use Rattle.explain.proofs.leading.way_to.Goals.{then-order-place+in-Some+in_ok-push-in-Some, else-order-place}

pub loop-place-init : goal.loop-place-init
loop-place-init c =
    rw (c.in_ok-push.ensures.items, c.new-way.ensures.items)
    (come_start c.args.graph.now.code c.args.graph.now.order c.in_ok-marks.marks.items c.args.slot c.slots-slots.ensures.flow c.in_ok-marks.ensures)

pub returns-then-at-slot : goal.returns-then-at-slot
returns-then-at-slot c =
    come_there c.args.graph.now.code c.args.graph.now.order c.in_ok-marks.marks.items c.args.slot c.loop-place.place c.loop-place.way.items c.loop-place.at
    c.if-at-slot.true c.loop-place.invariant

pub marked_after-requires-clause-begins : goal.marked_after-requires-clause-begins
marked_after-requires-clause-begins c =
    let lt : c.loop-place.place < length c.args.graph.now.order = rw c.order-order.ensures.order at c.loop-place-test.true in
    subst (Begins c.args.graph.now.code) (rw c.order-order.ensures.order at c.if-order-place.true) (c.slots-slots.ensures.flow.order.begins c.loop-place.place lt)

pub unreachable-requires : goal.unreachable-requires
unreachable-requires c =
    never_stuck c.args.graph.now.code c.in_ok-marks.marks.items c.args.slot c.loop-place.at c.in_ok-marks.ensures c.loop-place.invariant.marked c.if-at-slot.false
    (rw c.deref.ensures.value at c.in-None.ensures)

pub loop-place-preserved : goal.loop-place-preserved
loop-place-preserved c =
    let lt : c.loop-place.place < length c.args.graph.now.order = rw c.order-order.ensures.order at c.loop-place-test.true in
    rw add-one (elim c.if-order-place.branch [
      | then-order-place+in-Some+in_ok-push-in-Some w ↦
          let found = rw w.deref.ensures.value at w.in-Some.ensures in
          rw (w.way'-is, w.at-is, w.in_ok-push-in-Some.ensures.items)
          (come_on c.args.graph.now.code c.args.graph.now.order c.in_ok-marks.marks.items c.args.slot c.loop-place.place c.loop-place.way.items c.loop-place.at w.in-Some.next
          c.slots-slots.ensures.flow lt (rw c.order-order.ensures.order at w.if-order-place.true) c.loop-place.invariant found.0 found.1)
      | else-order-place w ↦
          rw (w.way'-is, w.at-is)
          (come_past c.args.graph.now.code c.args.graph.now.order c.in_ok-marks.marks.items c.args.slot c.loop-place.place c.loop-place.way.items c.loop-place.at
          c.if-at-slot.false (rw c.order-order.ensures.order at w.if-order-place.false) c.loop-place.invariant)
    ])

pub returns : goal.returns
returns c =
    come_end c.args.graph.now.code c.args.graph.now.order c.in_ok-marks.marks.items c.args.slot c.loop-place.place c.loop-place.way.items c.loop-place.at
    (rw c.order-order.ensures.order at c.loop-place-test.false) c.loop-place.invariant
