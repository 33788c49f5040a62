use Rattle.std.proofs.Common.{◌<◌, length, arith, add-one}
use Rattle.machine_model.proofs.Codes.{begins_within}
use Rattle.explain.specs.Arriving.{subject_of_program}
use Rattle.explain.proofs.ArrivingLemmas.{fill_all, fill_next}
use Rattle.explain.proofs.arriving.arrivals.Goals as goal

pub arrive-arrival-requires-clause-slot : goal.arrive-arrival-requires-clause-slot
arrive-arrival-requires-clause-slot c =
    let lt : c.loop-place.place < length c.args.analyzed.now.graph.now.order = rw c.order-order.ensures.order at c.loop-place-test.true in
    rw c.order-order.ensures.order (begins_within c.args.analyzed.now.graph.now.code _ (c.slots.ensures.flow.order.begins c.loop-place.place lt))

pub index_mut-requires : goal.index_mut-requires
index_mut-requires c =
    let lt : c.loop-place.place < length c.args.analyzed.now.graph.now.order = rw c.order-order.ensures.order at c.loop-place-test.true in
    let within = begins_within c.args.analyzed.now.graph.now.code _ (c.slots.ensures.flow.order.begins c.loop-place.place lt) in
    rw c.order-order.ensures.order (omega (arith, within, c.loop-place.invariant.slots, c.loop-place.table.ok.0))

pub loop-place-preserved : goal.loop-place-preserved
loop-place-preserved c =
    let lt : c.loop-place.place < length c.args.analyzed.now.graph.now.order = rw c.order-order.ensures.order at c.loop-place-test.true in
    let arrives = rw (c.deref.ensures.value, c.order-order.ensures.order) at c.arrive-arrival.ensures in
    rw (c.order-order.ensures.order, add-one)
    (fill_next (subject_of_program c.args.analyzed.now) c.args.analyzed.now.graph.now.order c.slots.ensures.flow c.loop-place.place c.loop-place.table.items c.arrive-arrival.result lt
    c.loop-place.invariant arrives)

pub returns : goal.returns
returns c =
    fill_all (subject_of_program c.args.analyzed.now) c.args.analyzed.now.graph.now.order c.slots.ensures.flow c.loop-place.place c.loop-place.table.items
    (rw c.order-order.ensures.order at c.loop-place-test.false) c.loop-place.invariant
