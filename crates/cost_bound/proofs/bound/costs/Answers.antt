use Rattle.std.proofs.Common.{◌-◌, ◌<◌, length, slice_index, arith}
use Rattle.cost_bound.proofs.Steps.{costs_set, costs_all, at_within}
use Rattle.cost_bound.proofs.bound.costs.Goals as goal

pub index_mut-requires : goal.index_mut-requires
index_mut-requires c = rw c.order-order.ensures.order
    (let low : c.loop-place.place - 1 < length c.args.graph.now.order = omega arith in
    let lt : slice_index c.args.graph.now.order (c.loop-place.place - 1) < length c.args.graph.now.code =
    at_within c.args.graph.now (c.loop-place.place - 1) c.slots-slots.ensures.flow low in
    omega (arith, c.loop-place.invariant.later.slots))

pub loop-place-preserved : goal.loop-place-preserved
loop-place-preserved c = rw c.order-order.ensures.order (record {
  later = costs_set c.args.graph.now c.loop-place.table.items (c.loop-place.place - 1) c.loop-place.place c.cost_of-cost.result
      c.slots-slots.ensures.flow c.loop-place.invariant.later (omega arith) (omega arith) c.cost_of-cost.ensures.cost c.cost_of-cost.ensures.few;
  below = omega arith;
})

pub returns : goal.returns
returns c = rw c.of.ensures
    (costs_all c.args.graph.now c.loop-place.table.items c.loop-place.place c.slots-slots.ensures.flow c.loop-place.invariant.later (omega arith))
