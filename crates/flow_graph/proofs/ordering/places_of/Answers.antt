use Rattle.std.proofs.Common.{◌≡◌, ◌<◌, ℕ, length, slice_index, arith, subst}
use Rattle.flow_graph.specs.Places.{ArePlaces}
use Rattle.flow_graph.proofs.CodeLemmas.{so}
use Rattle.flow_graph.proofs.PlaceLemmas.{slot_inside, twice, places_more}
use Rattle.flow_graph.proofs.ordering.places_of.Goals as goal

pub returns-in-Some : goal.returns-in-Some
returns-in-Some c =
    twice c.args.code.now c.args.order.now c.loop-place.places.items c.loop-place.place c.in-Some.field-0 c.index.result.now c.loop-place.invariant
    c.loop-place-test.true (so _ c.begins_at.ensures c.if-not-begins_at.false) c.index.ensures c.in-Some.is

pub index_mut-requires : goal.index_mut-requires
index_mut-requires c =
    let lt : slice_index c.args.order.now c.loop-place.place < length c.loop-place.places.items =
    slot_inside c.args.code.now c.args.order.now c.loop-place.places.items c.loop-place.place
    (slice_index c.args.order.now c.loop-place.place) c.loop-place.invariant (so _ c.begins_at.ensures c.if-not-begins_at.false) in
    omega arith

pub loop-place-preserved : goal.loop-place-preserved
loop-place-preserved c =
    places_more c.args.code.now c.args.order.now c.loop-place.places.items c.loop-place.place c.index.result.now c.loop-place.invariant
    (so _ c.begins_at.ensures c.if-not-begins_at.false) c.index.ensures c.in_default.is

pub returns : goal.returns
returns c =
    let end : c.loop-place.place ≡ length c.args.order.now = omega arith in
    subst (λ (n : ℕ). ArePlaces c.args.code.now c.args.order.now c.loop-place.places.items n) end c.loop-place.invariant
