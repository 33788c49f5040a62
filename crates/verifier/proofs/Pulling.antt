-- What comes to a slot from the slots that lead there, lowest first.
use Rattle.std.proofs.Common.{◌≡◌, ℕ, zero, suc, ◌-◌, ◌≤◌, ◌<◌, ◌==◌, length, Some, None, Option, ap, sym, ◌∙◌, arith, refl, inl, inr, subst, if◌then◌else◌}
use Rattle.std.proofs.lemmas.Bool.{cases_lt}
use Rattle.std.proofs.lemmas.Bool.Decides.{nat_tests}
use Rattle.insn_codec.specs.declared.insn.Insn.{Insn}
use Rattle.machine_model.specs.Edges.{Code, Fact, Always, NotTaken, Taken, insn_at, leads_at}
use Rattle.machine_model.proofs.Codes.{begins_within}
use Rattle.flow_graph.specs.Cycles.{IsJoint}
use Rattle.flow_graph.proofs.OrderLemmas.{joint_begins}
use Rattle.instruction_rules.specs.declared.rule.Rule.{Rule}
use Rattle.instruction_rules.specs.declared.state.AbsState.{AbsState}
use Rattle.instruction_rules.specs.States.{transferred, fault}
use Rattle.verifier.specs.InStates.{Subject, InState, Unreached, Undefined, Reached, joined_in_state, unless, out_state, if_leads_to, edge_state, joined_edges, AreInStates, in_state}
use Rattle.verifier.specs.Verdict.{in_state_of}
use Rattle.verifier.specs.Sources.{IsNextSource, slots_left}
use Rattle.verifier.specs.Propagation.{IsBlocked, IsPartlyJoined}
use Rattle.verifier.proofs.Arrivals.{joined_over_stops}

-- ---- what passes an edge

pub sent_is : (p : Subject) (o : Option Insn) (a : InState) (i : Insn) (fact : Fact) (state : AbsState) → o ≡ Some i → a ≡ Reached state →
    fault p.need p.helpers i state ≡ None → out_state p o fact a ≡ Reached (transferred i fact state)
sent_is p o a i fact state x y z =
    ap (λ (q : Option Insn). out_state p q fact a) x
    ∙ (ap (λ (b : InState). out_state p (Some i) fact b) y
    ∙ ap (λ (n : Option Rule). unless n (transferred i fact state)) z)

pub over_is : (p : Subject) (a : ℕ → InState) (s k : ℕ) (i : Insn) (fact : Fact) (state : AbsState) → insn_at p.code k ≡ Some i →
    a k ≡ Reached state → fault p.need p.helpers i state ≡ None →
    if_leads_to (leads_at p.code k fact) s (Reached (transferred i fact state)) ≡ edge_state p a s k fact
over_is p a s k i fact state x y z =
    ap (if_leads_to (leads_at p.code k fact) s) (sym (sent_is p (insn_at p.code k) (a k) i fact state x y z))

pub landed_at : (o : Option ℕ) (s : ℕ) (x : InState) → o ≡ Some s → if_leads_to o s x ≡ x
landed_at o s x e = ap (λ (p : Option ℕ). if_leads_to p s x) e ∙ at_same s x
  where
    at_same : (s : ℕ) (x : InState) → (if s == s then x else Unreached) ≡ x
    at_same s x = grind (arith, nat_tests)

-- ---- what is undefined stays so

met_undefined_left : (a : InState) → joined_in_state Undefined a ≡ Undefined
met_undefined_left Unreached = refl
met_undefined_left Undefined = refl
met_undefined_left (Reached state) = refl

met_undefined_right : (a : InState) → joined_in_state a Undefined ≡ Undefined
met_undefined_right Unreached = refl
met_undefined_right Undefined = refl
met_undefined_right (Reached state) = refl

three_undefined : (x a b c : InState) (fact : Fact) (e : Fact → InState) → e Always ≡ a → e NotTaken ≡ b → e Taken ≡ c → e fact ≡ Undefined →
    joined_in_state (joined_in_state (joined_in_state x a) b) c ≡ Undefined
three_undefined x a b c Always e p q r u =
    let h : a ≡ Undefined = sym p ∙ u in
    ap (λ (y : InState). joined_in_state (joined_in_state (joined_in_state x y) b) c) h ∙ (ap (λ (y : InState). joined_in_state (joined_in_state y b) c) (met_undefined_right x)
    ∙ (ap (λ (y : InState). joined_in_state y c) (met_undefined_left b) ∙ met_undefined_left c))
three_undefined x a b c NotTaken e p q r u =
    let h : b ≡ Undefined = sym q ∙ u in
    ap (λ (y : InState). joined_in_state (joined_in_state (joined_in_state x a) y) c) h ∙ (ap (λ (y : InState). joined_in_state y c) (met_undefined_right (joined_in_state x a)) ∙ met_undefined_left c)
three_undefined x a b c Taken e p q r u =
    let h : c ≡ Undefined = sym r ∙ u in
    ap (λ (y : InState). joined_in_state (joined_in_state (joined_in_state x a) b) y) h ∙ met_undefined_right (joined_in_state (joined_in_state x a) b)

more_undefined : (a b c : InState) (x : InState) → x ≡ Undefined → joined_in_state (joined_in_state (joined_in_state x a) b) c ≡ Undefined
more_undefined a b c x u =
    ap (λ (y : InState). joined_in_state (joined_in_state (joined_in_state y a) b) c) u ∙ (ap (λ (y : InState). joined_in_state (joined_in_state y b) c) (met_undefined_left a)
    ∙ (ap (λ (y : InState). joined_in_state y c) (met_undefined_left b) ∙ met_undefined_left c))

-- where what passes one edge is undefined, so is the join over all
joined_over_undefined : (p : Subject) (a : ℕ → InState) (s k n : ℕ) (fact : Fact) → k < n → edge_state p a s k fact ≡ Undefined →
    joined_edges p a s n ≡ Undefined
joined_over_undefined p a s k zero fact lt u = absurd (omega arith)
joined_over_undefined p a s k (suc n) fact lt u = elim (cases_lt k n) [
  | inl h ↦ more_undefined (edge_state p a s n Always) (edge_state p a s n NotTaken) (edge_state p a s n Taken) (joined_edges p a s n)
      (joined_over_undefined p a s k n fact h u)
  | inr h ↦ let same : k ≡ n = omega arith in
      three_undefined (joined_edges p a s n) (edge_state p a s n Always) (edge_state p a s n NotTaken) (edge_state p a s n Taken) fact (edge_state p a s n) refl refl refl
      (subst (λ (m : ℕ). edge_state p a s m fact ≡ Undefined) same u)
]

-- ---- one slot after the other

-- past the first slot, the join over all edges arrives
pub arrives_joined : (p : Subject) (s : ℕ) → AreInStates p (in_state p) → 0 < s → s < length p.code →
    in_state p s ≡ joined_edges p (in_state p) s (length p.code)
arrives_joined p zero h more lt = absurd (omega arith)
arrives_joined p (suc s) h more lt = h (suc s) lt

-- up to the next slot that leads there nothing more comes
pub pulled_on : (p : Subject) (s n : ℕ) (state : Option AbsState) (o : Option ℕ) → AreInStates p (in_state p) → 0 < s → s < length p.code →
    IsNextSource p.code s n o → n ≤ length p.code → in_state_of state ≡ joined_edges p (in_state p) s n → IsPartlyJoined p s state o
pulled_on p s n state None solves more within none le e =
    e ∙ (sym (joined_over_stops p (in_state p) s n (length p.code - n) (length p.code) (omega arith)
    (λ k from below fact edge. none k from (fact, edge)))
    ∙ sym (arrives_joined p s solves more within))
pulled_on p s n state (Some q) solves more within next le e = (
  next.1,
  e ∙ sym (joined_over_stops p (in_state p) s n (q - n) q (omega (arith, next.0))
      (λ k from below fact edge. next.2 k from below (fact, edge))),
)

through : (v : InState) {x y z p q r : InState} → x ≡ p → y ≡ q → z ≡ r → joined_in_state (joined_in_state (joined_in_state v x) y) z ≡ joined_in_state (joined_in_state (joined_in_state v p) q) r
through v f g h = cc

-- an instruction that is allowed has passed on what it leaves
pub pulled_allowed : (p : Subject) (s k : ℕ) (i : Insn) (in_states : AbsState) (old new : Option AbsState) → insn_at p.code k ≡ Some i →
    in_state p k ≡ Reached in_states → fault p.need p.helpers i in_states ≡ None → in_state_of old ≡ joined_edges p (in_state p) s k →
    in_state_of new ≡ joined_in_state (joined_in_state (joined_in_state (in_state_of old) (if_leads_to (leads_at p.code k Always) s (Reached (transferred i Always in_states))))
    (if_leads_to (leads_at p.code k NotTaken) s (Reached (transferred i NotTaken in_states))))
    (if_leads_to (leads_at p.code k Taken) s (Reached (transferred i Taken in_states))) →
    in_state_of new ≡ joined_edges p (in_state p) s (suc k)
pulled_allowed p s k i in_states old new there arrives allowed before met_is =
    met_is
    ∙ (through (in_state_of old) (over_is p (in_state p) s k i Always in_states there arrives allowed)
    (over_is p (in_state p) s k i NotTaken in_states there arrives allowed) (over_is p (in_state p) s k i Taken in_states there arrives allowed)
    ∙ ap (λ (x : InState). joined_in_state (joined_in_state (joined_in_state x (edge_state p (in_state p) s k Always)) (edge_state p (in_state p) s k NotTaken)) (edge_state p (in_state p) s k Taken)) before)

-- what leads there passes on something undefined
pub pulled_undefined : (p : Subject) (s k : ℕ) → IsJoint p.code k s → IsBlocked p k → joined_edges p (in_state p) s (length p.code) ≡ Undefined
pulled_undefined p s k (fact, edge) blocked =
    joined_over_undefined p (in_state p) s k (length p.code) fact (begins_within p.code k (joint_begins p.code k s (fact, edge)))
    (ap (λ (x : InState). if_leads_to (leads_at p.code k fact) s x) (blocked fact) ∙ landed_at (leads_at p.code k fact) s Undefined edge)

-- ---- the links

-- fewer slots are left
pub slots_left_smaller : (code : Code) (s q slots : ℕ) (o : Option ℕ) → q < slots → IsNextSource code s (suc q) o → slots_left slots o < slots_left slots (Some q)
slots_left_smaller code s q slots None lt next = omega (arith, lt)
slots_left_smaller code s q slots (Some r) lt next = let later : suc q ≤ r = next.0 in omega (arith, lt, later)

-- a slot that leads there lies within the code
pub joint_within : (p : Subject) (s q : ℕ) → IsJoint p.code q s → q < length p.code
joint_within p s q joint = begins_within p.code q (joint_begins p.code q s joint)
