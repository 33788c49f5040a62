-- What arrives at a slot covers what passes each edge to it.
use Rattle.std.proofs.Common.{◌≡◌, ℕ, zero, suc, ◌<◌, ◌⊎◌, List, length, Some, None, Option, ap, sym, ◌∙◌, arith, refl, inl, inr, slice_index_or, subst}
use Rattle.std.proofs.lemmas.Bool.{cases_lt}
use Rattle.insn_codec.specs.declared.insn.Insn.{Insn}
use Rattle.machine_model.specs.Edges.{Fact, Always, NotTaken, Taken, IsEdge, insn_at, leads_at}
use Rattle.machine_model.specs.Value.{Value}
use Rattle.machine_model.proofs.Codes.{begins_within}
use Rattle.flow_graph.specs.Flow.{IsFlow}
use Rattle.value_ranges.specs.declared.abs.Abs.{Abs}
use Rattle.value_ranges.specs.declared.abs.Abs.TheVariants.{Unset}
use Rattle.value_ranges.specs.Covers.{Covers}
use Rattle.value_ranges.specs.Joins.{joined}
use Rattle.value_ranges.proofs.MergeLemmas.{joined_covers}
use Rattle.instruction_rules.specs.declared.state.AbsState.{AbsState}
use Rattle.instruction_rules.specs.Covers.{abs_at, IsSubsumed}
use Rattle.instruction_rules.specs.States.{entry_state, transferred, fault, of_registers, joined_state}
use Rattle.verifier.specs.InStates.{Subject, InState, Unreached, Undefined, Reached, joined_in_state, edge_state, joined_edges, in_state}
use Rattle.verifier.specs.Verdict.{IsTable, in_state_of}
use Rattle.verifier.proofs.Arrivals.{arrive_is, no_edge_back}
use Rattle.verifier.proofs.Pulling.{over_is, landed_at}

abbrev pub state_in : List (Option AbsState) → ℕ → Option AbsState
state_in states slot = slice_index_or states slot None

-- a list of registers has what it was made of, and nothing behind them
of_register : (f : ℕ → Abs) (r : ℕ) → (slice_index_or (of_registers f) r Unset ≡ f r) ⊎ (slice_index_or (of_registers f) r Unset ≡ Unset)
of_register f zero = inl refl
of_register f (suc zero) = inl refl
of_register f (suc (suc zero)) = inl refl
of_register f (suc (suc (suc zero))) = inl refl
of_register f (suc (suc (suc (suc zero)))) = inl refl
of_register f (suc (suc (suc (suc (suc zero))))) = inl refl
of_register f (suc (suc (suc (suc (suc (suc zero)))))) = inl refl
of_register f (suc (suc (suc (suc (suc (suc (suc zero))))))) = inl refl
of_register f (suc (suc (suc (suc (suc (suc (suc (suc zero)))))))) = inl refl
of_register f (suc (suc (suc (suc (suc (suc (suc (suc (suc zero))))))))) = inl refl
of_register f (suc (suc (suc (suc (suc (suc (suc (suc (suc (suc zero)))))))))) = inl refl
of_register f (suc (suc (suc (suc (suc (suc (suc (suc (suc (suc (suc r))))))))))) = inr refl

covers_there : (o a : Abs) (v : Value) → (o ≡ a) ⊎ (o ≡ Unset) → Covers a v → Covers o v
covers_there o a v (inl e) h = subst (λ (x : Abs). Covers x v) (sym e) h
covers_there o a v (inr e) h = subst (λ (x : Abs). Covers x v) (sym e) tt

within_left : (s t : AbsState) → IsSubsumed s (joined_state s t)
within_left s t r v h =
    covers_there (abs_at (joined_state s t) r) (joined (abs_at s r) (abs_at t r)) v
    (of_register (λ r. joined (abs_at s r) (abs_at t r)) r)
    (joined_covers (abs_at s r) (abs_at t r) (joined (abs_at s r) (abs_at t r)) refl v (inl h))

within_right : (s t : AbsState) → IsSubsumed t (joined_state s t)
within_right s t r v h =
    covers_there (abs_at (joined_state s t) r) (joined (abs_at s r) (abs_at t r)) v
    (of_register (λ r. joined (abs_at s r) (abs_at t r)) r)
    (joined_covers (abs_at s r) (abs_at t r) (joined (abs_at s r) (abs_at t r)) refl v (inr h))

-- what comes in the one way is covered by what comes in the other
abbrev pub Below : InState → InState → Type 0
Below Unreached b = Unit {0}
Below a Undefined = Unit {0}
Below (Reached s) (Reached t) = IsSubsumed s t
Below _ _ = ⊥

below_self : (a : InState) → Below a a
below_self Unreached = tt
below_self Undefined = tt
below_self (Reached s) = λ r v h. h

below_trans : (a b c : InState) → Below a b → Below b c → Below a c
below_trans Unreached b c p q = tt
below_trans Undefined Undefined Undefined p q = tt
below_trans (Reached s) Undefined Undefined p q = tt
below_trans (Reached s) (Reached t) Undefined p q = tt
below_trans (Reached s) (Reached t) (Reached u) p q = λ r v h. q r v (p r v h)
below_trans Undefined Unreached c p q = absurd p
below_trans Undefined (Reached t) c p q = absurd p
below_trans Undefined Undefined Unreached p q = absurd q
below_trans Undefined Undefined (Reached u) p q = absurd q
below_trans (Reached s) Unreached c p q = absurd p
below_trans (Reached s) Undefined Unreached p q = absurd q
below_trans (Reached s) Undefined (Reached u) p q = absurd q
below_trans (Reached s) (Reached t) Unreached p q = absurd q

met_left : (a b : InState) → Below a (joined_in_state a b)
met_left Unreached b = tt
met_left Undefined Unreached = tt
met_left Undefined Undefined = tt
met_left Undefined (Reached t) = tt
met_left (Reached s) Unreached = below_self (Reached s)
met_left (Reached s) Undefined = tt
met_left (Reached s) (Reached t) = within_left s t

met_right : (a b : InState) → Below b (joined_in_state a b)
met_right Unreached b = below_self b
met_right Undefined Unreached = tt
met_right Undefined Undefined = tt
met_right Undefined (Reached t) = tt
met_right (Reached s) Unreached = tt
met_right (Reached s) Undefined = tt
met_right (Reached s) (Reached t) = within_right s t

-- each of the three edges of a slot is below the join with them
below_three : (x a b c : InState) (fact : Fact) (e : Fact → InState) → e Always ≡ a → e NotTaken ≡ b → e Taken ≡ c →
    Below (e fact) (joined_in_state (joined_in_state (joined_in_state x a) b) c)
below_three x a b c Always e p q r = rw p
    (below_trans a (joined_in_state x a) (joined_in_state (joined_in_state (joined_in_state x a) b) c) (met_right x a)
    (below_trans (joined_in_state x a) (joined_in_state (joined_in_state x a) b) (joined_in_state (joined_in_state (joined_in_state x a) b) c) (met_left (joined_in_state x a) b) (met_left (joined_in_state (joined_in_state x a) b) c)))
below_three x a b c NotTaken e p q r = rw q
    (below_trans b (joined_in_state (joined_in_state x a) b) (joined_in_state (joined_in_state (joined_in_state x a) b) c) (met_right (joined_in_state x a) b) (met_left (joined_in_state (joined_in_state x a) b) c))
below_three x a b c Taken e p q r = rw r (met_right (joined_in_state (joined_in_state x a) b) c)

below_before : (x a b c : InState) → Below x (joined_in_state (joined_in_state (joined_in_state x a) b) c)
below_before x a b c =
    below_trans x (joined_in_state x a) (joined_in_state (joined_in_state (joined_in_state x a) b) c) (met_left x a)
    (below_trans (joined_in_state x a) (joined_in_state (joined_in_state x a) b) (joined_in_state (joined_in_state (joined_in_state x a) b) c) (met_left (joined_in_state x a) b) (met_left (joined_in_state (joined_in_state x a) b) c))

-- what passes an edge is below the join over all slots
pub over_below : (subject : Subject) (a : ℕ → InState) (s p n : ℕ) (fact : Fact) → p < n → Below (edge_state subject a s p fact) (joined_edges subject a s n)
over_below subject a s p zero fact lt = absurd (omega arith)
over_below subject a s p (suc n) fact lt = elim (cases_lt p n) [
  | inl h ↦ below_trans (edge_state subject a s p fact) (joined_edges subject a s n) (joined_edges subject a s (suc n)) (over_below subject a s p n fact h)
      (below_before (joined_edges subject a s n) (edge_state subject a s n Always) (edge_state subject a s n NotTaken) (edge_state subject a s n Taken))
  | inr h ↦ let same : n ≡ p = omega arith in
      subst (λ (k : ℕ). Below (edge_state subject a s k fact) (joined_edges subject a s (suc n))) same
      (below_three (joined_edges subject a s n) (edge_state subject a s n Always) (edge_state subject a s n NotTaken) (edge_state subject a s n Taken) fact
      (edge_state subject a s n) refl refl refl)
]

-- a state that is below an arrival of the table
found : (inner : AbsState) (o : Option AbsState) → Below (Reached inner) (in_state_of o) → (outer : AbsState) × (o ≡ Some outer) × IsSubsumed inner outer
found inner None h = absurd h
found inner (Some outer) h = (outer, refl, h)

pub edge_covered : (subject : Subject) (order : List ℕ) (states : List (Option AbsState)) (p s : ℕ) (i : Insn) (state : AbsState) (fact : Fact) →
    IsFlow (record { code = subject.code; order = order }) → IsTable subject states → p < length subject.code → insn_at subject.code p ≡ Some i →
    in_state subject p ≡ Reached state → fault subject.need subject.helpers i state ≡ None →
    IsEdge subject.code p fact s → (outer : AbsState) × (state_in states s ≡ Some outer) × IsSubsumed (transferred i fact state) outer
edge_covered subject order states p zero i state fact f t lt x y z edge = absurd (no_edge_back subject.code order p fact f edge)
edge_covered subject order states p (suc s) i state fact f t lt x y z edge =
    let l = f.joined.lands p fact (suc s) edge in
    let inside : suc s < length subject.code = l.0 in
    let a : edge_state subject (in_state subject) (suc s) p fact ≡ Reached (transferred i fact state) =
    sym (over_is subject (in_state subject) (suc s) p i fact state x y z) ∙ landed_at (leads_at subject.code p fact) (suc s) (Reached (transferred i fact state)) edge in
    let b : joined_edges subject (in_state subject) (suc s) (length subject.code) ≡ in_state_of (state_in states (suc s)) =
    sym (t.each (suc s) inside ∙ arrive_is subject order f.joined f.order f.short (suc s) inside) in
    found (transferred i fact state) (state_in states (suc s))
    (subst (λ (u : InState). Below u (in_state_of (state_in states (suc s)))) a
    (subst (λ (u : InState). Below (edge_state subject (in_state subject) (suc s) p fact) u) b
    (over_below subject (in_state subject) (suc s) p (length subject.code) fact lt)))

-- what the table says of the entry and of each edge
pub record IsSoundTable (subject : Subject) (states : List (Option AbsState)) : Type 0 where
  pub entry : (outer : AbsState) × (state_in states 0 ≡ Some outer) × IsSubsumed (entry_state subject.need) outer
  pub allowed : (slot : ℕ) (i : Insn) (state : AbsState) → insn_at subject.code slot ≡ Some i → state_in states slot ≡ Some state →
      fault subject.need subject.helpers i state ≡ None
  pub covered : (slot : ℕ) (i : Insn) (state : AbsState) → insn_at subject.code slot ≡ Some i → state_in states slot ≡ Some state →
      (fact : Fact) (next : ℕ) → IsEdge subject.code slot fact next →
      (outer : AbsState) × (state_in states next ≡ Some outer) × IsSubsumed (transferred i fact state) outer

pub sound_of : (subject : Subject) (order : List ℕ) (states : List (Option AbsState)) → IsFlow (record { code = subject.code; order = order }) →
    IsTable subject states → IsSoundTable subject states
sound_of subject order states f t = record {
  entry = (
    entry_state subject.need,
    first_of_all (state_in states 0) (t.each 0 f.joined.starts ∙ arrive_is subject order f.joined f.order f.short 0 f.joined.starts),
    λ r v h. h,
  );
  allowed = λ p i state x y. t.allowed p i state x (arrives p i state x y);
  covered = λ p i state x y fact s edge.
      edge_covered subject order states p s i state fact f t (inside p i x) x (arrives p i state x y)
      (t.allowed p i state x (arrives p i state x y)) edge;
}
  where
    first_of_all : (o : Option AbsState) → in_state_of o ≡ Reached (entry_state subject.need) → o ≡ Some (entry_state subject.need)
    first_of_all None e = absurd (cc)
    first_of_all (Some state) e = cc

    inside : (p : ℕ) (i : Insn) → insn_at subject.code p ≡ Some i → p < length subject.code
    inside p i x = begins_within subject.code p (i, x)

    arrives : (p : ℕ) (i : Insn) (state : AbsState) → insn_at subject.code p ≡ Some i → state_in states p ≡ Some state → in_state subject p ≡ Reached state
    arrives p i state x y = sym (t.each p (inside p i x)) ∙ ap in_state_of y
