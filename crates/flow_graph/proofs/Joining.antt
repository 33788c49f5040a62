-- In a program without a fault each edge leads to an instruction.
use Rattle.std.proofs.Common.{◌≡◌, ℕ, ◌+◌, ◌≤◌, ◌<◌, length, Some, None, Option, ap, sym, ◌∙◌, arith, refl, inl, inr, slice_get, subst, nat_lt, if◌then◌else◌, Bool, true, false}
use Rattle.std.specs.Prelude.{option_and_then}
use Rattle.std.proofs.lemmas.Bool.{cases_lt}
use Rattle.std.proofs.lemmas.Bool.Decides.{nat_tests}
use Rattle.std.proofs.lemmas.Option.{slice_get_within}
use Rattle.insn_codec.specs.declared.insn.Insn.{Insn}
use Rattle.machine_model.specs.Edges.{Code, Fact, Always, NotTaken, Taken, IsEdge, Begins, insn_at, leads, leads_at, target}
use Rattle.flow_graph.specs.declared.fault.FlowFault.{FlowFault}
use Rattle.flow_graph.specs.declared.fault.FlowFault.TheVariants.{FallsOff}
use Rattle.flow_graph.specs.declared.onward.Onward.{Onward}
use Rattle.flow_graph.specs.declared.onward.Onward.TheVariants.{Steps, StepsWide, Jumps, Branches, Ends}
use Rattle.flow_graph.specs.Onward.{onward_of}
use Rattle.flow_graph.specs.Faults.{landing_fault, jump_fault, fall_fault, onward_fault, fault_of, fault_at}
use Rattle.flow_graph.specs.Flow.{IsJoined}
use Rattle.flow_graph.proofs.Onwards.{leads_on, width_of, leads_of, first_none}

-- after each instruction another begins, or the program ends
pub record IsLaid (code : Code) : Type 0 where
  pub starts : 0 < length code
  pub opens : Begins code 0
  pub few : length code ≤ 4096
  pub follows : (s : ℕ) (i : Insn) → insn_at code s ≡ Some i → s + width_of (onward_of i) < length code →
      Begins code (s + width_of (onward_of i))

abbrev pub Lands : Code → ℕ → Type 0
Lands code s = (s < length code) × Begins code s

below : (a b : ℕ) (fault : FlowFault) → (if nat_lt a b then None else Some fault) ≡ None → a < b
below a b fault e = elim (cases_lt a b) [
  | inl h ↦ h
  | inr h ↦ let f : nat_lt a b ≡ false = grind (arith, nat_tests) in absurd (off (nat_lt a b) f e)
]
  where
    off : (t : Bool) → t ≡ false → (if t then None else Some fault) ≡ None → ⊥
    off true f e = cc
    off false f e = cc

fallen : (code : Code) (p t s : ℕ) → (t < length code → Begins code t) → fall_fault code p t ≡ None → t ≡ s → Lands code s
fallen code p t s b e same =
    let lt : t < length code = below t (length code) (FallsOff p) e in
    subst (Lands code) same (lt, b lt)

landed : (code : Code) (p t : ℕ) (x : Option (Option Insn)) → slice_get code t ≡ x → landing_fault p t x ≡ None → Lands code t
landed code p t None e f = absurd (cc)
landed code p t (Some None) e f = absurd (cc)
landed code p t (Some (Some i)) e f =
    (slice_get_within code t (Some i) e, (i, ap (λ (x : Option (Option Insn)). option_and_then (λ j. j) x) e))

jumped : (code : Code) (p : ℕ) (o : Option ℕ) (s : ℕ) → jump_fault code p o ≡ None → o ≡ Some s → Lands code s
jumped code p None s f e = absurd (cc)
jumped code p (Some t) s f e =
    let same : t ≡ s = cc in
    subst (Lands code) same (landed code p t (slice_get code t) refl f)

same_end : (s t : ℕ) → Some s ≡ Some t → s ≡ t
same_end s t e = cc

lands_on : (code : Code) (p s : ℕ) (onward : Onward) (fact : Fact) →
    (p + width_of onward < length code → Begins code (p + width_of onward)) → onward_fault code p onward ≡ None →
    leads_on onward p fact ≡ Some s → Lands code s
lands_on code p s Steps Always b e l = fallen code p (p + 1) s b e (same_end _ _ l)
lands_on code p s Steps NotTaken b e l = absurd (cc)
lands_on code p s Steps Taken b e l = absurd (cc)
lands_on code p s StepsWide Always b e l = fallen code p (p + 2) s b e (same_end _ _ l)
lands_on code p s StepsWide NotTaken b e l = absurd (cc)
lands_on code p s StepsWide Taken b e l = absurd (cc)
lands_on code p s (Jumps offset) Always b e l = jumped code p (target p offset) s e l
lands_on code p s (Jumps offset) NotTaken b e l = absurd (cc)
lands_on code p s (Jumps offset) Taken b e l = absurd (cc)
lands_on code p s (Branches offset) Always b e l = absurd (cc)
lands_on code p s (Branches offset) NotTaken b e l =
    fallen code p (p + 1) s b (first_none (jump_fault code p (target p offset)) (fall_fault code p (p + 1)) e).1 (same_end _ _ l)
lands_on code p s (Branches offset) Taken b e l =
    jumped code p (target p offset) s (first_none (jump_fault code p (target p offset)) (fall_fault code p (p + 1)) e).0 l
lands_on code p s Ends Always b e l = absurd (cc)
lands_on code p s Ends NotTaken b e l = absurd (cc)
lands_on code p s Ends Taken b e l = absurd (cc)

pub lands_at : (code : Code) → IsLaid code → (p : ℕ) (fact : Fact) (s : ℕ) → (o : Option Insn) → fault_at code p ≡ None →
    insn_at code p ≡ o → IsEdge code p fact s → Lands code s
lands_at code d p fact s None none x edge =
    let l : leads_at code p fact ≡ None = ap (λ (q : Option Insn). option_and_then (λ i. leads i p fact) q) x in absurd (cc)
lands_at code d p fact s (Some i) none x edge =
    lands_on code p s (onward_of i) fact (d.follows p i x) (sym (ap (fault_of code p) x) ∙ none) (sym (leads_of code p i fact x) ∙ edge)

pub joined_of : (code : Code) → IsLaid code → ((slot : ℕ) → fault_at code slot ≡ None) → IsJoined code
joined_of code d none = record {
  starts = d.starts;
  opens = d.opens;
  few = d.few;
  faultless = none;
  lands = λ p fact s edge. lands_at code d p fact s (insn_at code p) (none p) refl edge;
}
