use Rattle.std.proofs.Common.{◌≡◌, ◌<◌, ◌∙◌, length, sym, arith, add-one, Option, subst}
use Rattle.std.proofs.lemmas.List.{with_items_is}
use Rattle.verifier.specs.declared.states.Fault.{Fault}
use Rattle.verifier.specs.Propagation.{IsFirst}
use Rattle.verifier.proofs.Arrivals.{arrive_is}
use Rattle.verifier.proofs.Examining.{come_start, first_same, first_fault, all_passed, all_among, come_refused}
use Rattle.verifier.proofs.RegionLemmas.{none_among, regions_more}
use Rattle.verifier.proofs.states.states.Goals as goal
use Rattle.verifier.proofs.states.states.Goals.{in-None, in-Some}

pub loop-place-init : goal.loop-place-init
loop-place-init c =
    let flow = c.slots-slots.ensures.flow in
    record {
      propagated = come_start (record { need = c.args.need; helpers = c.args.helpers.now; code = c.args.graph.now.code }) c.args.graph.now.order c.in_ok-sources.sources
          c.in_ok-states.states.items flow
          (arrive_is (record { need = c.args.need; helpers = c.args.helpers.now; code = c.args.graph.now.code }) c.args.graph.now.order flow.joined flow.order flow.short)
          c.in_ok-sources.ensures (c.in_ok-states.ensures.slots ∙ c.slots-slots.ensures.slots) c.in_ok-states.ensures.first
          (λ s more within. let lt : s < c.slots-slots.result = omega (arith, within, c.slots-slots.ensures.slots) in c.in_ok-states.ensures.others s more lt);
      told = λ s m. absurd (none_among c.args.graph.now.order s m);
      long =
          let e : length c.in_ok-regions.regions.items ≡ length c.args.graph.now.code =
          omega (arith, c.in_ok-regions.ensures.len, c.slots-slots.ensures.slots, c.in_ok-regions.regions.ok.0) in e;
      regions = λ s m. absurd (none_among c.args.graph.now.order s m);
    }

pub loop-place-preserved : goal.loop-place-preserved
loop-place-preserved c =
    let within : c.loop-place.place < length c.args.graph.now.order = rw c.order-place-end.ensures.order at c.loop-place-test.true in
    let long : length c.visit.new.states ≡ length c.loop-place.states.items = c.in_ok-fault.ensures.propagated.slots ∙ sym c.loop-place.invariant.propagated.slots in
    let regions_long : length c.visit.new.regions ≡ length c.loop-place.regions.items =
    rw c.deref_mut-in-loop-place.ensures.value at c.in_ok-fault.ensures.regions in
    rw (
      add-one,
      with_items_is c.loop-place.states c.visit.new.states (long ∙ sym c.loop-place.states.ok.0),
      with_items_is c.loop-place.regions c.visit.new.regions (regions_long ∙ sym c.loop-place.regions.ok.0),
    )
    (record {
      propagated = c.in_ok-fault.ensures.propagated;
      told = elim c.match-fault.branch [
        | in-None w ↦
            rw w.first-is (first_same (record { need = c.args.need; helpers = c.args.helpers.now; code = c.args.graph.now.code }) c.args.graph.now.order c.loop-place.place
            c.loop-place.first c.loop-place.invariant.told (rw w.in-None.is at c.in_ok-fault.ensures.found))
        | in-Some w ↦
            rw (w.first-is, w.earlier.ensures) (first_fault (record { need = c.args.need; helpers = c.args.helpers.now; code = c.args.graph.now.code }) c.args.graph.now.order
            c.loop-place.place c.loop-place.first w.in-Some.fault c.loop-place.invariant.told (rw w.in-Some.is at c.in_ok-fault.ensures.found))
      ];
      long = regions_long ∙ c.loop-place.invariant.long;
      regions = regions_more (record { need = c.args.need; helpers = c.args.helpers.now; code = c.args.graph.now.code }) c.args.graph.now.order c.loop-place.place
          c.loop-place.regions.items c.visit.new.regions (rw c.deref_mut-in-loop-place.ensures.value at c.in_ok-fault.ensures.others) c.loop-place.invariant.regions
          c.in_ok-fault.ensures.region;
    })

pub returns-in-None-first : goal.returns-in-None-first
returns-in-None-first c =
    let flow = c.slots-slots.ensures.flow in
    let all : c.loop-place.place ≡ length c.args.graph.now.order =
    rw c.order-place-end.ensures.order at (let e : c.loop-place.place ≡ length c.order-place-end.result.now = omega (arith, c.loop-place-test.false, c.loop-place.auto.place-end) in e) in
    record {
      table = all_passed (record { need = c.args.need; helpers = c.args.helpers.now; code = c.args.graph.now.code }) c.args.graph.now.order c.loop-place.place flow.joined flow.order
          (arrive_is (record { need = c.args.need; helpers = c.args.helpers.now; code = c.args.graph.now.code }) c.args.graph.now.order flow.joined flow.order flow.short) all
          (subst (λ (o : Option Fault). IsFirst (record { need = c.args.need; helpers = c.args.helpers.now; code = c.args.graph.now.code }) c.args.graph.now.order c.loop-place.place o)
          c.in-None-first.is c.loop-place.invariant.told);
      merges = c.merges.ensures;
      slots = c.loop-place.invariant.long;
      regions = λ s begins. c.loop-place.invariant.regions s
          (all_among (record { need = c.args.need; helpers = c.args.helpers.now; code = c.args.graph.now.code }) c.args.graph.now.order c.loop-place.place s flow.order all begins);
    }

pub returns : goal.returns
returns c =
    c.at.ensures.first (record { need = c.args.need; helpers = c.args.helpers.now; code = c.args.graph.now.code })
    (let flow = c.slots-slots.ensures.flow in
    let all : c.loop-place.place ≡ length c.args.graph.now.order =
    rw c.order-place-end.ensures.order at (let e : c.loop-place.place ≡ length c.order-place-end.result.now = omega (arith, c.loop-place-test.false, c.loop-place.auto.place-end) in e) in
    come_refused (record { need = c.args.need; helpers = c.args.helpers.now; code = c.args.graph.now.code }) c.args.graph.now.order c.in-Some-first.fault c.loop-place.place
    flow.order all
    (subst (λ (o : Option Fault). IsFirst (record { need = c.args.need; helpers = c.args.helpers.now; code = c.args.graph.now.code }) c.args.graph.now.order c.loop-place.place o)
    c.in-Some-first.is c.loop-place.invariant.told))
