use Rattle.std.proofs.Common.{◌≡◌, ◌<◌, ◌∙◌, sym, ap, arith, length, ℕ, Some, None, Option, slice_index_or, subst}
use Rattle.std.proofs.lemmas.List.{get_or_default}
use Rattle.machine_model.specs.Edges.{insn_at}
use Rattle.verifier.specs.Propagation.{IsAmong}
use Rattle.instruction_rules.specs.Judged.{destination_left}
use Rattle.verifier.specs.Sources.{slots_left}
use Rattle.verifier.specs.Survey.{subject_of}
use Rattle.verifier.proofs.Options.{one_some}
use Rattle.verifier.proofs.Pulling.{slots_left_smaller, joint_within}
use Rattle.verifier.proofs.Comings.{sent_there}
use Rattle.verifier.proofs.Examining.{comes_next}
use Rattle.verifier.proofs.states.propagate_waiting.Goals as goal

pub bounds-states-from : goal.bounds-states-from
bounds-states-from c =
    let next = comes_next (subject_of c.args.survey.now) c.args.survey.now.graph.now.order c.args.place c.slot_at-slot.result c.in-Some.from c.loop-from.sources
    c.loop-from.states c.slots-slots.ensures.flow c.requires.place c.slot_at-slot.ensures.slot c.loop-from.invariant (sym c.first.ensures ∙ c.in-Some.is) in
    let within = joint_within (subject_of c.args.survey.now) c.slot_at-slot.result c.in-Some.from next.0 in
    omega (arith, within, c.loop-from.invariant.slots)

pub visit_again-visited-requires : goal.visit_again-visited-requires
visit_again-visited-requires c =
    let next = comes_next (subject_of c.args.survey.now) c.args.survey.now.graph.now.order c.args.place c.slot_at-slot.result c.in-Some.from c.loop-from.sources
    c.loop-from.states c.slots-slots.ensures.flow c.requires.place c.slot_at-slot.ensures.slot c.loop-from.invariant (sym c.first.ensures ∙ c.in-Some.is) in
    let within = joint_within (subject_of c.args.survey.now) c.slot_at-slot.result c.in-Some.from next.0 in
    let room : c.in-Some.from < length c.loop-from.states = omega (arith, within, c.loop-from.invariant.slots) in
    rw c.get.ensures (sent_there (subject_of c.args.survey.now) c.loop-from.sources.first c.in-Some.from (slice_index_or c.loop-from.states c.in-Some.from None)
    c.in-Some-states.state (sym (get_or_default c.loop-from.states c.in-Some.from c.index-states-from.result None room) ∙ c.in-Some-states.is)
    (c.loop-from.invariant.out_state c.in-Some.from next.1))

pub propagate_to-requires-clause-left : goal.propagate_to-requires-clause-left
propagate_to-requires-clause-left c = λ state there.
    let next = comes_next (subject_of c.args.survey.now) c.args.survey.now.graph.now.order c.args.place c.slot_at-slot.result c.in-Some.from c.loop-from.sources
    c.loop-from.states c.slots-slots.ensures.flow c.requires.place c.slot_at-slot.ensures.slot c.loop-from.invariant (sym c.first.ensures ∙ c.in-Some.is) in
    let within = joint_within (subject_of c.args.survey.now) c.slot_at-slot.result c.in-Some.from next.0 in
    let room : c.in-Some.from < length c.loop-from.states = omega (arith, within, c.loop-from.invariant.slots) in
    c.visit_again-visited.ensures.left
    ∙ ap (destination_left c.visit_again-visited.result.insn.now) (c.get.ensures
    ∙ one_some (slice_index_or c.loop-from.states c.in-Some.from None) c.in-Some-states.state state
    (sym (get_or_default c.loop-from.states c.in-Some.from c.index-states-from.result None room) ∙ c.in-Some-states.is)
    (sym (rw c.visit_again-visited.ensures.from at there)))

pub loop-from-smaller : goal.loop-from-smaller
loop-from-smaller c =
    let next = comes_next (subject_of c.args.survey.now) c.args.survey.now.graph.now.order c.args.place c.slot_at-slot.result c.in-Some.from c.loop-from.sources
    c.loop-from.states c.slots-slots.ensures.flow c.requires.place c.slot_at-slot.ensures.slot c.loop-from.invariant (sym c.first.ensures ∙ c.in-Some.is) in
    let within = joint_within (subject_of c.args.survey.now) c.slot_at-slot.result c.in-Some.from next.0 in
    let after = rw c.visit_again-visited.ensures.from at c.in_ok-propagate_to.ensures.first in
    subst (λ (o : Option ℕ). slots_left (length c.args.survey.now.graph.now.code) (slice_index_or c.propagate_to.new.sources.first c.slot_at-slot.result None)
    < slots_left (length c.args.survey.now.graph.now.code) o) (sym (sym c.first.ensures ∙ c.in-Some.is))
    (slots_left_smaller c.args.survey.now.graph.now.code c.slot_at-slot.result c.in-Some.from (length c.args.survey.now.graph.now.code)
    (slice_index_or c.propagate_to.new.sources.first c.slot_at-slot.result None) within after)

pub loop-from-preserved : goal.loop-from-preserved
loop-from-preserved c =
    let next = comes_next (subject_of c.args.survey.now) c.args.survey.now.graph.now.order c.args.place c.slot_at-slot.result c.in-Some.from c.loop-from.sources
    c.loop-from.states c.slots-slots.ensures.flow c.requires.place c.slot_at-slot.ensures.slot c.loop-from.invariant (sym c.first.ensures ∙ c.in-Some.is) in
    let within = joint_within (subject_of c.args.survey.now) c.slot_at-slot.result c.in-Some.from next.0 in
    let room : c.in-Some.from < length c.loop-from.states = omega (arith, within, c.loop-from.invariant.slots) in
    c.in_ok-propagate_to.ensures.propagated c.args.survey.now.need c.args.survey.now.helpers.now c.args.place c.in-Some-states.state c.loop-from.invariant
    (subst (λ (k : ℕ). IsAmong c.args.survey.now.graph.now.order c.args.place k) (sym c.visit_again-visited.ensures.from) next.1) next.2
    (subst (λ (k : ℕ). insn_at c.args.survey.now.graph.now.code k ≡ Some c.visit_again-visited.result.insn.now) (sym c.visit_again-visited.ensures.from)
    c.visit_again-visited.ensures.insn)
    (subst (λ (k : ℕ). slice_index_or c.loop-from.states k None ≡ Some c.in-Some-states.state) (sym c.visit_again-visited.ensures.from)
    (sym (get_or_default c.loop-from.states c.in-Some.from c.index-states-from.result None room) ∙ c.in-Some-states.is))
