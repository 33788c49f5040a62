use Rattle.std.proofs.Common.{◌≡◌, ◌<◌, ◌∙◌, sym, arith, add-one, length, slice_index, None}
use Rattle.std.proofs.lemmas.List.{with_items_is}
use Rattle.verifier.specs.Survey.{subject_of}
use Rattle.verifier.proofs.Arrivals.{arrive_is}
use Rattle.verifier.proofs.Again.{in_state_here, no_fault, still_ahead, nothing_arrives}
use Rattle.verifier.proofs.Examining.{come_start, first_same}
use Rattle.verifier.proofs.RegionLemmas.{none_among}
use Rattle.verifier.proofs.in_state.in_state_at.Goals as goal

pub loop-place-init : goal.loop-place-init
loop-place-init c =
    let flow = c.slots-slots.ensures.flow in
    record {
      propagated = come_start (subject_of c.args.survey.now) c.args.survey.now.graph.now.order c.in_ok-sources.sources
          c.in_ok-states.states.items flow
          (arrive_is (subject_of c.args.survey.now) c.args.survey.now.graph.now.order flow.joined flow.order flow.short)
          c.in_ok-sources.ensures (c.in_ok-states.ensures.slots ∙ c.slots-slots.ensures.slots) c.in_ok-states.ensures.first
          (λ s more within. let lt : s < c.slots-slots.result = omega (arith, within, c.slots-slots.ensures.slots) in c.in_ok-states.ensures.others s more lt);
      told = λ s m. absurd (none_among c.args.survey.now.graph.now.order s m);
      long =
          let e : length c.in_ok-regions.regions.items ≡ length c.args.survey.now.graph.now.code =
          omega (arith, c.in_ok-regions.ensures.len, c.slots-slots.ensures.slots, c.in_ok-regions.regions.ok.0) in e;
      away = λ m. none_among c.args.survey.now.graph.now.order c.args.slot m;
    }

pub loop-place-preserved : goal.loop-place-preserved
loop-place-preserved c =
    let long : length c.visit.new.states ≡ length c.loop-place.states.items = c.in_ok-fault.ensures.propagated.slots ∙ sym c.loop-place.invariant.propagated.slots in
    let regions_long : length c.visit.new.regions ≡ length c.loop-place.regions.items =
    rw c.deref_mut-in-loop-place-2.ensures.value at c.in_ok-fault.ensures.regions in
    rw (
      add-one,
      with_items_is c.loop-place.states c.visit.new.states (long ∙ sym c.loop-place.states.ok.0),
      with_items_is c.loop-place.regions c.visit.new.regions (regions_long ∙ sym c.loop-place.regions.ok.0),
    )
    (record {
      propagated = c.in_ok-fault.ensures.propagated;
      told = first_same (subject_of c.args.survey.now) c.args.survey.now.graph.now.order c.loop-place.place None c.loop-place.invariant.told
          (rw c.in-None.is at c.in_ok-fault.ensures.found);
      long = regions_long ∙ c.loop-place.invariant.long;
      away = still_ahead c.args.survey.now.graph.now.order c.loop-place.place c.args.slot
          (λ e. c.if-slot_at-slot.false (c.slot_at.ensures.slot ∙ e)) c.loop-place.invariant.away;
    })

pub unreachable-requires : goal.unreachable-requires
unreachable-requires c =
    no_fault (subject_of c.args.survey.now) c.args.survey.now.graph.now.order c.loop-place.place _ _ c.requires.allowed (rw c.in-Some.is at c.in_ok-fault.ensures.found)

pub returns : goal.returns
returns c =
    let all : c.loop-place.place ≡ length c.args.survey.now.graph.now.order =
    rw c.order-place-end.ensures.order at (let e : c.loop-place.place ≡ length c.order-place-end.result.now = omega (arith, c.loop-place-test.false, c.loop-place.auto.place-end) in e) in
    let flow = c.slots-slots.ensures.flow in
    nothing_arrives (subject_of c.args.survey.now) c.args.survey.now.graph.now.order c.loop-place.place c.args.slot flow
    (arrive_is (subject_of c.args.survey.now) c.args.survey.now.graph.now.order flow.joined flow.order flow.short) all c.requires.slot c.loop-place.invariant.away

pub returns-then-slot_at-slot : goal.returns-then-slot_at-slot
returns-then-slot_at-slot c =
    let flow = c.slots-slots.ensures.flow in
    let lt : c.loop-place.place < length c.args.survey.now.graph.now.order = rw c.order-place-end.ensures.order at c.loop-place-test.true in
    let here : c.args.slot ≡ slice_index c.args.survey.now.graph.now.order c.loop-place.place = sym c.if-slot_at-slot.true ∙ c.slot_at.ensures.slot in
    let long : length c.propagate_waiting.new.states ≡ length c.loop-place.states.items =
    c.in_ok-propagate_waiting.ensures.propagated.slots ∙ sym c.loop-place.invariant.propagated.slots in
    c.state_in.ensures
    ∙ rw (c.deref.ensures.value, with_items_is c.loop-place.states c.propagate_waiting.new.states (long ∙ sym c.loop-place.states.ok.0)) (in_state_here (subject_of c.args.survey.now) c.args.survey.now.graph.now.order c.loop-place.place c.args.slot
    c.propagate_waiting.new.sources c.propagate_waiting.new.states flow
    (arrive_is (subject_of c.args.survey.now) c.args.survey.now.graph.now.order flow.joined flow.order flow.short) here lt
    c.in_ok-propagate_waiting.ensures.propagated c.loop-place.invariant.told c.in_ok-propagate_waiting.ensures.rest)
