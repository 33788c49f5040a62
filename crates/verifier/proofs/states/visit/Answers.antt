use Rattle.std.proofs.Common.{◌≡◌, ◌<◌, ◌∙◌, sym, ap, arith, length, ℕ, Some, None, inl, inr, slice_index, slice_index_or, subst}
use Rattle.std.proofs.lemmas.List.{get_or_default}
use Rattle.verifier.specs.InStates.{Undefined, in_state}
use Rattle.instruction_rules.specs.Judged.{destination_left}
use Rattle.verifier.specs.Propagation.{IsVisited}
use Rattle.verifier.specs.Survey.{subject_of}
use Rattle.verifier.proofs.Arrivals.{arrive_is}
use Rattle.verifier.proofs.Options.{one_some}
use Rattle.instruction_rules.proofs.StateLemmas.{refused_is, allowed_is}
use Rattle.verifier.proofs.Comings.{come_passed}
use Rattle.verifier.proofs.Examining.{stays_out, all_come, come_cleared, comes_there, nothing_there, blocked_by, blocked_at_fault, never, arrives_something}
use Rattle.verifier.proofs.states.visit.Goals as goal

pub returns-in-Some-clause-propagated : goal.returns-in-Some-clause-propagated
returns-in-Some-clause-propagated c =
    let flow = c.slots-slots.ensures.flow in
    let room : c.slot_at-slot.result < length c.propagate_waiting.new.states = omega (arith, c.slot_at-slot.ensures.within, c.in_ok-propagate_waiting.ensures.propagated.slots) in
    let first = sym c.first.ensures ∙ c.in-Some.is in
    let out = stays_out (subject_of c.args.survey.now) c.args.survey.now.graph.now.order c.args.place c.slot_at-slot.result c.in-Some.field-0 c.propagate_waiting.new.sources
    c.propagate_waiting.new.states flow (arrive_is (subject_of c.args.survey.now) c.args.survey.now.graph.now.order flow.joined flow.order flow.short) c.slot_at-slot.ensures.slot
    c.requires.place c.in_ok-propagate_waiting.ensures.propagated first (c.in_ok-propagate_waiting.ensures.rest c.in-Some.field-0 (rw c.slot_at-slot.ensures.slot at first)) in
    come_cleared (subject_of c.args.survey.now) c.args.survey.now.graph.now.order c.args.place c.slot_at-slot.result c.propagate_waiting.new.sources c.propagate_waiting.new.states
    c.slot_at-slot.ensures.slot c.requires.place room c.in_ok-propagate_waiting.ensures.propagated (blocked_by (subject_of c.args.survey.now) c.slot_at-slot.result out.0)

pub returns-in-Some-clause-found : goal.returns-in-Some-clause-found
returns-in-Some-clause-found c =
    let flow = c.slots-slots.ensures.flow in
    let first = sym c.first.ensures ∙ c.in-Some.is in
    let out = stays_out (subject_of c.args.survey.now) c.args.survey.now.graph.now.order c.args.place c.slot_at-slot.result c.in-Some.field-0 c.propagate_waiting.new.sources
    c.propagate_waiting.new.states flow (arrive_is (subject_of c.args.survey.now) c.args.survey.now.graph.now.order flow.joined flow.order flow.short) c.slot_at-slot.ensures.slot
    c.requires.place c.in_ok-propagate_waiting.ensures.propagated first (c.in_ok-propagate_waiting.ensures.rest c.in-Some.field-0 (rw c.slot_at-slot.ensures.slot at first)) in
    inr (rw c.slot_at-slot.ensures.slot at out)

pub returns-in-Some-clause-region : goal.returns-in-Some-clause-region
returns-in-Some-clause-region c = λ i state there insn arrives accesses.
    let flow = c.slots-slots.ensures.flow in
    let first = sym c.first.ensures ∙ c.in-Some.is in
    let out = stays_out (subject_of c.args.survey.now) c.args.survey.now.graph.now.order c.args.place c.slot_at-slot.result c.in-Some.field-0 c.propagate_waiting.new.sources
    c.propagate_waiting.new.states flow (arrive_is (subject_of c.args.survey.now) c.args.survey.now.graph.now.order flow.joined flow.order flow.short) c.slot_at-slot.ensures.slot
    c.requires.place c.in_ok-propagate_waiting.ensures.propagated first (c.in_ok-propagate_waiting.ensures.rest c.in-Some.field-0 (rw c.slot_at-slot.ensures.slot at first)) in
    absurd (never (in_state (subject_of c.args.survey.now) (slice_index c.args.survey.now.graph.now.order c.args.place)) state
    (subst (λ (k : ℕ). in_state (subject_of c.args.survey.now) k ≡ Undefined) c.slot_at-slot.ensures.slot out.0) arrives)

pub unreachable-requires : goal.unreachable-requires
unreachable-requires c =
    let flow = c.slots-slots.ensures.flow in
    let solves = arrive_is (subject_of c.args.survey.now) c.args.survey.now.graph.now.order flow.joined flow.order flow.short in
    let room : c.slot_at-slot.result < length c.propagate_waiting.new.states = omega (arith, c.slot_at-slot.ensures.within, c.in_ok-propagate_waiting.ensures.propagated.slots) in
    let empty = sym (get_or_default c.propagate_waiting.new.states c.slot_at-slot.result c.index-states-slot-2.result None room) ∙ c.in-None.is in
    arrives_something (subject_of c.args.survey.now) c.slot_at-slot.result solves flow.joined
    (flow.reached c.slot_at-slot.result c.slot_at-slot.ensures.begins)
    (nothing_there (in_state (subject_of c.args.survey.now) c.slot_at-slot.result) (slice_index_or c.propagate_waiting.new.states c.slot_at-slot.result None) empty
    (all_come (subject_of c.args.survey.now) c.args.survey.now.graph.now.order c.args.place c.slot_at-slot.result c.propagate_waiting.new.sources c.propagate_waiting.new.states flow.order
    c.slot_at-slot.ensures.slot c.requires.place c.in_ok-propagate_waiting.ensures.propagated (sym c.in_default.ensures)))

pub propagate-requires-clause-left : goal.propagate-requires-clause-left
propagate-requires-clause-left c = λ state there.
    let room : c.slot_at-slot.result < length c.propagate_waiting.new.states = omega (arith, c.slot_at-slot.ensures.within, c.in_ok-propagate_waiting.ensures.propagated.slots) in
    let kept = sym (get_or_default c.propagate_waiting.new.states c.slot_at-slot.result c.index-states-slot-2.result None room) ∙ c.in-Some-states.is in
    let judged = allowed_is _ (destination_left c.unwrap-insn.result.now c.get-in-Some-states.result.now) c.in-Ok.left c.in-Ok.ensures in
    judged.1 ∙ ap (destination_left c.unwrap-insn.result.now) (c.get-in-Some-states.ensures
    ∙ one_some (slice_index_or c.propagate_waiting.new.states c.slot_at-slot.result None) c.in-Some-states.state state kept (sym there))

pub returns-in-Err-clause-propagated : goal.returns-in-Err-clause-propagated
returns-in-Err-clause-propagated c =
    let room : c.slot_at-slot.result < length c.propagate_waiting.new.states = omega (arith, c.slot_at-slot.ensures.within, c.in_ok-propagate_waiting.ensures.propagated.slots) in
    let kept = sym (get_or_default c.propagate_waiting.new.states c.slot_at-slot.result c.index-states-slot-2.result None room) ∙ c.in-Some-states.is in
    let arrives = comes_there (in_state (subject_of c.args.survey.now) c.slot_at-slot.result) (slice_index_or c.propagate_waiting.new.states c.slot_at-slot.result None) c.in-Some-states.state kept
    (all_come (subject_of c.args.survey.now) c.args.survey.now.graph.now.order c.args.place c.slot_at-slot.result c.propagate_waiting.new.sources c.propagate_waiting.new.states
    c.slots-slots.ensures.flow.order c.slot_at-slot.ensures.slot c.requires.place c.in_ok-propagate_waiting.ensures.propagated (sym c.in_default.ensures)) in
    let broken = refused_is _ (destination_left c.unwrap-insn.result.now c.get-in-Some-states.result.now) c.in-Err.rule c.in-Err.ensures in
    come_cleared (subject_of c.args.survey.now) c.args.survey.now.graph.now.order c.args.place c.slot_at-slot.result c.propagate_waiting.new.sources c.propagate_waiting.new.states
    c.slot_at-slot.ensures.slot c.requires.place room c.in_ok-propagate_waiting.ensures.propagated
    (blocked_at_fault (subject_of c.args.survey.now) c.slot_at-slot.result c.in-Err.rule (record {
      insn = c.unwrap-insn.result.now;
      state = c.in-Some-states.state;
      there = sym (rw c.unwrap-insn.ensures at c.insn.ensures);
      arrives = arrives;
      applies = rw c.get-in-Some-states.ensures at broken;
    }))

pub returns-in-Err-clause-found : goal.returns-in-Err-clause-found
returns-in-Err-clause-found c =
    let room : c.slot_at-slot.result < length c.propagate_waiting.new.states = omega (arith, c.slot_at-slot.ensures.within, c.in_ok-propagate_waiting.ensures.propagated.slots) in
    let kept = sym (get_or_default c.propagate_waiting.new.states c.slot_at-slot.result c.index-states-slot-2.result None room) ∙ c.in-Some-states.is in
    let arrives = comes_there (in_state (subject_of c.args.survey.now) c.slot_at-slot.result) (slice_index_or c.propagate_waiting.new.states c.slot_at-slot.result None) c.in-Some-states.state kept
    (all_come (subject_of c.args.survey.now) c.args.survey.now.graph.now.order c.args.place c.slot_at-slot.result c.propagate_waiting.new.sources c.propagate_waiting.new.states
    c.slots-slots.ensures.flow.order c.slot_at-slot.ensures.slot c.requires.place c.in_ok-propagate_waiting.ensures.propagated (sym c.in_default.ensures)) in
    let broken = refused_is _ (destination_left c.unwrap-insn.result.now c.get-in-Some-states.result.now) c.in-Err.rule c.in-Err.ensures in (
      c.slot_at-slot.ensures.slot,
      record {
        insn = c.unwrap-insn.result.now;
        state = c.in-Some-states.state;
        there = sym (rw c.unwrap-insn.ensures at c.insn.ensures);
        arrives = arrives;
        applies = rw c.get-in-Some-states.ensures at broken;
      },
    )

passes : (c : goal.In_ok-propagate-in-Ok) → IsVisited (subject_of c.args.survey.now) c.slot_at-slot.result c.in-Some-states.state
passes c =
    let room : c.slot_at-slot.result < length c.propagate_waiting.new.states = omega (arith, c.slot_at-slot.ensures.within, c.in_ok-propagate_waiting.ensures.propagated.slots) in
    let kept = sym (get_or_default c.propagate_waiting.new.states c.slot_at-slot.result c.index-states-slot-2.result None room) ∙ c.in-Some-states.is in
    let arrives = comes_there (in_state (subject_of c.args.survey.now) c.slot_at-slot.result) (slice_index_or c.propagate_waiting.new.states c.slot_at-slot.result None) c.in-Some-states.state kept
    (all_come (subject_of c.args.survey.now) c.args.survey.now.graph.now.order c.args.place c.slot_at-slot.result c.propagate_waiting.new.sources c.propagate_waiting.new.states
    c.slots-slots.ensures.flow.order c.slot_at-slot.ensures.slot c.requires.place c.in_ok-propagate_waiting.ensures.propagated (sym c.in_default.ensures)) in
    let judged = allowed_is _ (destination_left c.unwrap-insn.result.now c.get-in-Some-states.result.now) c.in-Ok.left c.in-Ok.ensures in record {
      insn = c.unwrap-insn.result.now;
      there = sym (rw c.unwrap-insn.ensures at c.insn.ensures);
      arrives = arrives;
      allowed = rw c.get-in-Some-states.ensures at judged.0;
    }

pub returns-in_ok-propagate-in-Ok-clause-propagated : goal.returns-in_ok-propagate-in-Ok-clause-propagated
returns-in_ok-propagate-in-Ok-clause-propagated c =
    let room : c.slot_at-slot.result < length c.propagate_waiting.new.states = omega (arith, c.slot_at-slot.ensures.within, c.in_ok-propagate_waiting.ensures.propagated.slots) in
    let kept = sym (get_or_default c.propagate_waiting.new.states c.slot_at-slot.result c.index-states-slot-2.result None room) ∙ c.in-Some-states.is in
    c.in_ok-propagate-in-Ok.ensures.propagated c.args.survey.now.need c.args.survey.now.helpers.now c.args.place
    (come_passed (subject_of c.args.survey.now) c.args.survey.now.graph.now.order c.args.place c.propagate_waiting.new.sources c.propagate_waiting.new.states c.in-Some-states.state
    c.requires.place c.in_ok-propagate_waiting.ensures.propagated (subst (λ (k : ℕ). IsVisited (subject_of c.args.survey.now) k c.in-Some-states.state) c.slot_at-slot.ensures.slot (passes c))
    (subst (λ (k : ℕ). slice_index_or c.propagate_waiting.new.states k None ≡ Some c.in-Some-states.state) c.slot_at-slot.ensures.slot kept))
    c.requires.place (sym c.slot_at-slot.ensures.slot)

pub returns-in_ok-propagate-in-Ok-clause-found : goal.returns-in_ok-propagate-in-Ok-clause-found
returns-in_ok-propagate-in-Ok-clause-found c =
    inl (c.in-Some-states.state, subst (λ (k : ℕ). IsVisited (subject_of c.args.survey.now) k c.in-Some-states.state) c.slot_at-slot.ensures.slot (passes c))
