-- What arrives at each slot, from what arrives at the slots that lead there.
use Rattle.std.proofs.Common.{◌≡◌, ◌≢◌, ℕ, zero, suc, ◌≤◌, ◌<◌, List, length, slice_set, slice_index, Option, Some, None, inl, inr, refl, sym, subst, ap, ◌∙◌, arith}
use Rattle.std.proofs.lemmas.Bool.{cases_lt}
use Rattle.std.proofs.lemmas.List.{get_or-set_same, get_or-set_other}
use Rattle.std.proofs.Math.ListN.{length-set}
use Rattle.insn_codec.specs.declared.insn.Insn.{Insn}
use Rattle.machine_model.specs.Edges.{Fact, Always, NotTaken, Taken, Begins, insn_at}
use Rattle.machine_model.proofs.Codes.{begins_within}
use Rattle.flow_graph.specs.Flow.{IsFlow}
use Rattle.instruction_rules.specs.declared.rule.Rule.{Rule}
use Rattle.instruction_rules.specs.declared.state.AbsState.{AbsState}
use Rattle.instruction_rules.specs.States.{fault, transferred}
use Rattle.verifier.specs.InStates.{Subject, InState, Unreached, Undefined, Reached, joined_in_state, unless, out_state, edge_state, joined_edges, in_state_by, in_state}
use Rattle.verifier.proofs.Arrivals.{met_nothing, arriving_same, behind_place, joined_over_stops, arrive_is}
use Rattle.verifier.proofs.Examining.{begun_or_not}
use Rattle.explain.specs.declared.arriving.Arrival.{Arrival}
use Rattle.explain.specs.declared.arriving.Arrival.TheVariants as arrival
use Rattle.explain.specs.Arriving.{arriving, arriving_at, joined_from, AreArrivals, AreFilled}

-- ---- two ways

-- ---- along the edges of one slot

three : (v : InState) {x y z p q r : InState} → x ≡ p → y ≡ q → z ≡ r →
    joined_in_state (joined_in_state (joined_in_state v x) y) z ≡ joined_in_state (joined_in_state (joined_in_state v p) q) r
three v e f g = cc

last_two : (a x : InState) → joined_in_state (joined_in_state (joined_in_state a x) Unreached) Unreached ≡ joined_in_state a x
last_two a x = met_nothing (joined_in_state (joined_in_state a x) Unreached) ∙ met_nothing (joined_in_state a x)

none_of : (p : Subject) (f : ℕ → InState) (s k : ℕ) → ((fact : Fact) → edge_state p f s k fact ≡ Unreached) → (a : InState) → joined_from p f s k a ≡ a
none_of p f s k none a =
    three a (none Always) (none NotTaken) (none Taken) ∙ (last_two a Unreached ∙ met_nothing a)

-- ---- all slots

pub past_first : (p : Subject) (f : ℕ → InState) (s n : ℕ) → s ≢ 0 → joined_edges p f s n ≡ in_state_by p f s n
past_first p f zero n ne = absurd (ne refl)
past_first p f (suc s) n ne = refl

module _ (p : Subject) (order : List ℕ) (flow : IsFlow (record { code = p.code; order = order })) where
  -- the slots ahead have what arrives there, so the next one gets what arrives there
  here : (place : ℕ) (table : List Arrival) (a : Arrival) → place < length order → AreFilled p order place table →
      arriving a ≡ in_state_by p (arriving_at table) (slice_index order place) (length p.code) → arriving a ≡ in_state p (slice_index order place)
  here place table a lt filled is =
      is
      ∙ (arriving_same p (arriving_at table) (in_state p) (slice_index order place) (length p.code)
      (λ k fact edge.
      let at = behind_place p order place flow.order lt k fact edge in
      subst (λ (s : ℕ). arriving_at table s ≡ in_state p s) at.3 (filled.each at.0 at.1))
      ∙ sym (arrive_is p order flow.joined flow.order flow.short (slice_index order place) (begins_within p.code _ (flow.order.begins place lt))))

  pub fill_next : (place : ℕ) (table : List Arrival) (a : Arrival) → place < length order → AreFilled p order place table →
      arriving a ≡ in_state_by p (arriving_at table) (slice_index order place) (length p.code) →
      AreFilled p order (suc place) (slice_set table (slice_index order place) a)
  fill_next place table a lt filled is =
      let within = begins_within p.code _ (flow.order.begins place lt) in
      let room : slice_index order place < length table = omega (arith, within, filled.slots) in
      record {
        slots = length-set table (slice_index order place) a ∙ filled.slots;
        few = omega (arith, lt);
        each = λ q below. elim (cases_lt q place) [
          | inl under ↦
              let low : q < length order = omega (arith, under, lt) in
              let apart : slice_index order q ≢ slice_index order place = λ e. let same : q ≡ place = flow.order.once q place low lt e in omega (arith, same, under) in
              ap arriving (get_or-set_other table (slice_index order place) (slice_index order q) a arrival.Unreached apart) ∙ filled.each q under
          | inr ge ↦
              let same : q ≡ place = omega (arith, ge, below) in
              subst (λ (k : ℕ). arriving_at (slice_set table (slice_index order place) a) (slice_index order k) ≡ in_state p (slice_index order k)) (sym same)
              (ap arriving (get_or-set_same table (slice_index order place) a arrival.Unreached room) ∙ here place table a lt filled is)
        ];
        others = λ s none.
            let last : place < suc place = omega arith in
            let apart : s ≢ slice_index order place = λ e. none place last (sym e) in
            ap arriving (get_or-set_other table (slice_index order place) s a arrival.Unreached apart)
            ∙ filled.others s (λ q below e. let low : q < suc place = omega (arith, below) in none q low e);
      }

  nothing_comes : (s : ℕ) → s < length p.code → insn_at p.code s ≡ None → Unreached ≡ in_state p s
  nothing_comes s lt none =
      sym (arrive_is p order flow.joined flow.order flow.short s lt
      ∙ (sym (past_first p (in_state p) s (length p.code) (λ e. never (subst (Begins p.code) (sym e) flow.joined.opens)))
      ∙ joined_over_stops p (in_state p) s 0 (length p.code) (length p.code) (omega arith) (λ k low under fact edge. never (flow.joined.lands k fact s edge).1)))
    where
      never : Begins p.code s → ⊥
      never b = let e = b.1 in let n = none in cc

  pub fill_all : (place : ℕ) (table : List Arrival) → length order ≤ place → AreFilled p order place table → AreArrivals p table
  fill_all place table all filled = record {
    slots = filled.slots;
    each = λ s lt. elim (begun_or_not p.code s) [
      | inl begins ↦
          let at = flow.order.each s begins in
          let low : at.0 < place = omega (arith, all, at.1) in
          subst (λ (k : ℕ). arriving_at table k ≡ in_state p k) at.2 (filled.each at.0 low)
      | inr none ↦
          filled.others s (λ q below e.
          let low : q < length order = omega (arith, below, filled.few) in
          not_there s none (subst (Begins p.code) e (flow.order.begins q low)))
          ∙ nothing_comes s lt none
    ];
  }
    where
      not_there : (s : ℕ) → insn_at p.code s ≡ None → Begins p.code s → ⊥
      not_there s none b = let e = b.1 in let n = none in cc

-- ---- an instruction that is visited

pub passes_refused : (p : Subject) (i : Insn) (fact : Fact) (a : InState) (state : AbsState) (rule : Rule) → a ≡ Reached state → fault p.need p.helpers i state ≡ Some rule →
    Undefined ≡ out_state p (Some i) fact a
passes_refused p i fact a state rule is broken =
    sym (ap (out_state p (Some i) fact) is ∙ ap (λ (o : Option Rule). unless o (transferred i fact state)) broken)

pub passes_allowed : (p : Subject) (i : Insn) (fact : Fact) (a : InState) (state next : AbsState) → a ≡ Reached state → fault p.need p.helpers i state ≡ None →
    next ≡ transferred i fact state → Reached next ≡ out_state p (Some i) fact a
passes_allowed p i fact a state next is allowed e =
    ap Reached e ∙ sym (ap (out_state p (Some i) fact) is ∙ ap (λ (o : Option Rule). unless o (transferred i fact state)) allowed)
