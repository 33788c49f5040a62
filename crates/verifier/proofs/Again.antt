-- The in-state of one slot, where the analysis of an allowed program has come to its place.
use Rattle.std.proofs.Common.{◌≡◌, ℕ, suc, ◌≤◌, ◌<◌, ◌≢◌, List, [], ◌∷◌, zero, length, Some, None, Option, ap, sym, ◌∙◌, arith, refl, inl, inr, slice_index, slice_index_or, subst}
use Rattle.instruction_rules.specs.declared.state.AbsState.{AbsState}
use Rattle.instruction_rules.specs.States.{fault}
use Rattle.flow_graph.specs.Flow.{IsFlow}
use Rattle.verifier.specs.declared.states.Fault.{Fault}
use Rattle.verifier.specs.InStates.{Subject, AreInStates, in_state, in_states, state_of}
use Rattle.verifier.specs.Verdict.{IsAllowedAt, in_state_of}
use Rattle.verifier.specs.Sources.{Links}
use Rattle.verifier.specs.Propagation.{IsVisitResult, IsAmong, HasPropagated, IsFirst}
use Rattle.verifier.proofs.Options.{none_some}
use Rattle.verifier.proofs.Comings.{passed_not_blocked, among_before}
use Rattle.verifier.proofs.Examining.{stays_out, all_come, all_among, begun_or_not, second_arrives, arrived_long}

state_back : (o : Option AbsState) → state_of (in_state_of o) ≡ o
state_back None = refl
state_back (Some state) = refl

-- nothing ahead has a fault, so all has come to the slot at the place
pub in_state_here : (p : Subject) (order : List ℕ) (n s : ℕ) (links : Links) (states : List (Option AbsState)) → IsFlow (record { code = p.code; order = order }) →
    AreInStates p (in_state p) → s ≡ slice_index order n → n < length order → HasPropagated p order n links states → IsFirst p order n None →
    ((q : ℕ) → slice_index_or links.first (slice_index order n) None ≡ Some q → slice_index_or states q None ≡ None) →
    slice_index_or states s None ≡ state_of (in_state p s)
in_state_here p order n s links states f solves at lt h told rest = by_first (slice_index_or links.first s None) refl
  where
    by_first : (o : Option ℕ) → slice_index_or links.first s None ≡ o → slice_index_or states s None ≡ state_of (in_state p s)
    by_first None e =
        sym (state_back (slice_index_or states s None)) ∙ ap state_of (all_come p order n s links states f.order at lt h e)
    by_first (Some q) e =
        let gone = rest q (subst (λ (k : ℕ). slice_index_or links.first k None ≡ Some q) at e) in
        let out = stays_out p order n s q links states f solves at lt h e gone in
        let passed = told out.1.0 out.1.1 in
        absurd (passed_not_blocked p out.1.0 passed.0 passed.1 out.1.2)

-- a visit finds no fault where all is allowed
pub no_fault : (p : Subject) (order : List ℕ) (n slot : ℕ) (f : Fault) → ((s : ℕ) → IsAllowedAt p s) → IsVisitResult p order n slot (Some f) → ⊥
no_fault p order n slot f allowed (at, h) =
    none_some (fault p.need p.helpers h.insn h.state) f.rule (allowed f.slot h.insn h.state h.there h.arrives) h.applies

-- one place more isn't the slot's
pub still_ahead : (order : List ℕ) (n s : ℕ) → slice_index order n ≢ s → (IsAmong order n s → ⊥) → IsAmong order (suc n) s → ⊥
still_ahead order n s ne none m = none (among_before order n s m (λ e. ne (sym e)))

-- at no place of the order no instruction begins, and nothing arrives
pub nothing_arrives : (p : Subject) (order : List ℕ) (n s : ℕ) → IsFlow (record { code = p.code; order = order }) → AreInStates p (in_state p) →
    n ≡ length order → s < length p.code → (IsAmong order n s → ⊥) → None ≡ state_of (in_state p s)
nothing_arrives p order n s f solves all within none = elim (begun_or_not p.code s) [
  | inl begins ↦ absurd (none (all_among p order n s f.order all begins))
  | inr no_insn ↦ sym (ap state_of (second_arrives p s f.joined solves within no_insn))
]

-- past the end no state is known
past : (states : List (Option AbsState)) (s : ℕ) → length states ≤ s → slice_index_or states s None ≡ None
past [] s le = refl
past (o ∷ states) zero le = absurd (omega (arith, le))
past (o ∷ states) (suc s) le = let less : length states ≤ s = omega (arith, le) in past states s less

-- nothing stands past the program's end
pub state_outside : (p : Subject) (s : ℕ) → length p.code ≤ s → slice_index_or (in_states p) s None ≡ None
state_outside p s le = past (in_states p) s (omega (arith, le, arrived_long p))
