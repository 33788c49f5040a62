-- The cost of a slot, from the costs of the slots that it leads to.
use Rattle.std.proofs.Common.{◌≡◌, ℕ, ◌+◌, ◌≤◌, ◌<◌, List, [], ◌∷◌, length, Some, None, Option, ap, sym, ◌∙◌, arith, refl, max, subst, inl, inr, ◌*◌, slice_index, slice_set, ◌≢◌, rules, Bor, IsSome}
use Rattle.std.specs.Prelude.{option_and_then}
use Rattle.std.specs.Option.{option_copied}
use Rattle.std.proofs.lemmas.Bool.{cases_lt}
use Rattle.std.proofs.lemmas.List.Sums.{sum_by-cons}
use Rattle.std.proofs.lemmas.List.{get_or-set_same, get_or-set_other}
use Rattle.std.proofs.Math.ListN.{length-set}
use Rattle.insn_codec.specs.declared.insn.Insn.{Insn}
use Rattle.insn_codec.specs.declared.insn.Insn.TheVariants.{Exit}
use Rattle.machine_model.specs.Edges.{Code, Fact, Begins, insn_at, leads, leads_at, IsEdge, Always, NotTaken, Taken, price}
use Rattle.machine_model.specs.Paths.{price_of, price_at, IsExitPath, path_price, IsCost, AreCosts}
use Rattle.flow_graph.specs.declared.graph.Next.TheVariants.{Zero, One, Two}
use Rattle.machine_model.proofs.Codes.{begins_within}
use Rattle.flow_graph.specs.Flow.{Flow, IsFlow, AreNext}
use Rattle.cost_bound.specs.Table.{AreCostsFrom}

leads_of : (code : Code) (p : ℕ) (i : Insn) (fact : Fact) → insn_at code p ≡ Some i → leads_at code p fact ≡ leads i p fact
leads_of code p i fact e = ap (λ (o : Option Insn). option_and_then (λ j. leads j p fact) o) e

-- an exit leads nowhere
exit_leads : (code : Code) (p : ℕ) (fact : Fact) → insn_at code p ≡ Some Exit → leads_at code p fact ≡ None
exit_leads code p fact e = leads_of code p Exit fact e ∙ nowhere p fact
  where
    nowhere : (p : ℕ) (fact : Fact) → leads Exit p fact ≡ None
    nowhere p Always = refl
    nowhere p NotTaken = refl
    nowhere p Taken = refl

price_is : (code : Code) (p : ℕ) (i : Insn) → insn_at code p ≡ Some i → price_at code p ≡ price i
price_is code p i e = ap price_of e

no_edge : {P : Type 0} (o : Option ℕ) (s : ℕ) → o ≡ Some s → o ≡ None → P
no_edge o s a b = absurd (cc)

same_slot : (o : Option ℕ) (s t : ℕ) → o ≡ Some s → o ≡ Some t → s ≡ t
same_slot o s t a b = cc

-- A slot that is no exit, and whose edges all lead to slots of at most this cost
over_edges : (code : Code) (p n c : ℕ) → price_at code p ≡ n → (insn_at code p ≡ Some Exit → ⊥) →
    ((fact : Fact) (s : ℕ) → IsEdge code p fact s → (path : List ℕ) → IsExitPath code s path → path_price code s path ≤ c) →
    (path : List ℕ) → IsExitPath code p path → path_price code p path ≤ n + c
over_edges code p n c q goes h [] e = absurd (goes e)
over_edges code p n c q goes h (s ∷ path) e =
    let b : path_price code s path ≤ c = h e.0.0 s e.0.1 path e.1 in
    let a : path_price code p (s ∷ path) ≡ price_at code p + path_price code s path = sum_by-cons (price_at code) p (s ∷ path) in
    omega arith

no_exit : (code : Code) (p s : ℕ) (fact : Fact) → IsEdge code p fact s → insn_at code p ≡ Some Exit → ⊥
no_exit code p s fact edge e = no_edge {P = ⊥} (leads_at code p fact) s edge (exit_leads code p fact e)

-- the cost goes over an edge to a slot of that cost
over_edge : (code : Code) (p s n c : ℕ) (fact : Fact) → price_at code p ≡ n → IsEdge code p fact s → IsCost code s c →
    (path : List ℕ) × IsExitPath code p path × (path_price code p path ≡ n + c)
over_edge code p s n c fact q edge cost =
    let a = cost.attained in
    let b : path_price code p (s ∷ a.0) ≡ price_at code p + path_price code s a.0 = sum_by-cons (price_at code) p (s ∷ a.0) in
    let e : path_price code s a.0 ≡ c = a.2 in
    (s ∷ a.0, ((fact, edge), a.1), omega arith)

pub cost_zero : (code : Code) (p : ℕ) (i : Insn) → insn_at code p ≡ Some i → AreNext code p Zero → IsCost code p (price i + 0)
cost_zero code p i e next =
    let q : price_at code p ≡ price i = price_is code p i e in
    record {
      greatest = λ path. at_end code p (price i) q next path;
      attained = ([], next.0, omega (arith, q));
    }
  where
    at_end : (code : Code) (p : ℕ) (n : ℕ) → price_at code p ≡ n → AreNext code p Zero →
        (path : List ℕ) → IsExitPath code p path → path_price code p path ≤ n + 0
    at_end code p n q next [] h = omega (arith, q)
    at_end code p n q next (s ∷ path) h = no_edge (leads_at code p h.0.0) s h.0.1 (next.1 h.0.0)

pub cost_one : (code : Code) (p : ℕ) (i : Insn) (s c : ℕ) → insn_at code p ≡ Some i → AreNext code p (One s) → IsCost code s c →
    IsCost code p (price i + c)
cost_one code p i s c e next cost =
    let q : price_at code p ≡ price i = price_is code p i e in
    record {
      greatest = λ path. over_edges code p (price i) c q (λ x. no_exit code p s Always next.0 x)
          (λ fact t edge. each code p s c next cost fact t edge) path;
      attained = over_edge code p s (price i) c Always q next.0 cost;
    }
  where
    each : (code : Code) (p s c : ℕ) → AreNext code p (One s) → IsCost code s c → (fact : Fact) (t : ℕ) → IsEdge code p fact t →
        (path : List ℕ) → IsExitPath code t path → path_price code t path ≤ c
    each code p s c next cost Always t edge path h =
        let same : s ≡ t = same_slot (leads_at code p Always) s t next.0 edge in
        subst (λ (u : ℕ). IsExitPath code u path → path_price code u path ≤ c) same (cost.greatest path) h
    each code p s c next cost NotTaken t edge path h = no_edge (leads_at code p NotTaken) t edge next.1
    each code p s c next cost Taken t edge path h = no_edge (leads_at code p Taken) t edge next.2

pub cost_two : (code : Code) (p : ℕ) (i : Insn) (s t c d : ℕ) → insn_at code p ≡ Some i → AreNext code p (Two s t) →
    IsCost code s c → IsCost code t d → IsCost code p (price i + max c d)
cost_two code p i s t c d e next left right =
    let q : price_at code p ≡ price i = price_is code p i e in
    record {
      greatest = λ path. over_edges code p (price i) (max c d) q (λ x. no_exit code p s NotTaken next.1 x)
          (λ fact u edge. each code p s t c d next left right fact u edge) path;
      attained = elim (cases_lt c d) [
        | inl h ↦ let m : max c d ≡ d = omega arith in
            rw m (over_edge code p t (price i) d Taken q next.2 right)
        | inr h ↦ let m : max c d ≡ c = omega arith in
            rw m (over_edge code p s (price i) c NotTaken q next.1 left)
      ];
    }
  where
    each : (code : Code) (p s t c d : ℕ) → AreNext code p (Two s t) → IsCost code s c → IsCost code t d →
        (fact : Fact) (u : ℕ) → IsEdge code p fact u →
        (path : List ℕ) → IsExitPath code u path → path_price code u path ≤ max c d
    each code p s t c d next left right Always u edge path h = no_edge (leads_at code p Always) u edge next.0
    each code p s t c d next left right NotTaken u edge path h =
        let same : s ≡ u = same_slot (leads_at code p NotTaken) s u next.1 edge in
        let b : path_price code u path ≤ c =
        subst (λ (v : ℕ). IsExitPath code v path → path_price code v path ≤ c) same (left.greatest path) h in
        omega arith
    each code p s t c d next left right Taken u edge path h =
        let same : t ≡ u = same_slot (leads_at code p Taken) t u next.2 edge in
        let b : path_price code u path ≤ d =
        subst (λ (v : ℕ). IsExitPath code v path → path_price code v path ≤ d) same (right.greatest path) h in
        omega arith

-- an edge from the slot at a place leads to a slot at a later one
later_place : (flow : Flow) (place p s : ℕ) (fact : Fact) → IsFlow flow → place < length flow.order → slice_index flow.order place ≡ p →
    IsEdge flow.code p fact s → (q : ℕ) × (place < q) × (q < length flow.order) × (slice_index flow.order q ≡ s)
later_place flow place p s fact f lt is edge =
    let i = f.order.each s (f.joined.lands p fact s edge).1 in
    let up : place < i.0 = f.order.onward place i.0 fact lt i.1
    (subst (λ (r : ℕ). IsEdge flow.code r fact (slice_index flow.order i.0)) (sym is) (subst (IsEdge flow.code p fact) (sym i.2) edge)) in
    (i.0, up, i.1, i.2)

-- the cost of a slot that an edge leads to stands in the table
pub cost_over : (flow : Flow) (table : List ℕ) (place p s : ℕ) (fact : Fact) → IsFlow flow → AreCostsFrom flow table (place + 1) →
    place < length flow.order → slice_index flow.order place ≡ p → IsEdge flow.code p fact s → IsCost flow.code s (slice_index table s)
cost_over flow table place p s fact f later lt is edge =
    let q = later_place flow place p s fact f lt is edge in
    let up : place < q.0 = q.1 in
    let above : place + 1 ≤ q.0 = omega arith in
    subst (λ (t : ℕ). IsCost flow.code t (slice_index table t)) q.3 (later.each q.0 above q.2)

-- and leaves room for one price more
pub few_over : (flow : Flow) (table : List ℕ) (place p s : ℕ) (fact : Fact) → IsFlow flow → AreCostsFrom flow table (place + 1) →
    place < length flow.order → slice_index flow.order place ≡ p → IsEdge flow.code p fact s →
    slice_index table s + 32 * place + 32 ≤ 32 * length flow.order
few_over flow table place p s fact f later lt is edge =
    let q = later_place flow place p s fact f lt is edge in
    let up : place < q.0 = q.1 in
    let above : place + 1 ≤ q.0 = omega arith in
    let few : slice_index table s + 32 * q.0 ≤ 32 * length flow.order =
    subst (λ (t : ℕ). slice_index table t + 32 * q.0 ≤ 32 * length flow.order) q.3 (later.few q.0 above q.2) in
    omega arith

pub at_begins : (flow : Flow) (place : ℕ) → IsFlow flow → place < length flow.order → Begins flow.code (slice_index flow.order place)
at_begins flow place f lt = f.order.begins place lt

pub at_within : (flow : Flow) (place : ℕ) → IsFlow flow → place < length flow.order → slice_index flow.order place < length flow.code
at_within flow place f lt = begins_within flow.code (slice_index flow.order place) (f.order.begins place lt)

-- the cost at one more place
pub costs_set : (flow : Flow) (table : List ℕ) (p q c : ℕ) → IsFlow flow → AreCostsFrom flow table q → q ≡ p + 1 → p < length flow.order →
    IsCost flow.code (slice_index flow.order p) c → c + 32 * p ≤ 32 * length flow.order →
    AreCostsFrom flow (slice_set table (slice_index flow.order p) c) p
costs_set flow table p q c f later e lt cost few = record {
  slots = length-set table (slice_index flow.order p) c ∙ later.slots;
  each = λ place h low. elim (cases_lt p place) [
    | inl over ↦
        let above : q ≤ place = omega arith in
        rw (get_or-set_other table (slice_index flow.order p) (slice_index flow.order place) c 0 (apart place low over)) (later.each place above low)
    | inr under ↦
        let same : p ≡ place = omega arith in
        subst (λ (k : ℕ). IsCost flow.code (slice_index flow.order k) (slice_index (slice_set table (slice_index flow.order p) c) (slice_index flow.order k))) same
        (rw (get_or-set_same table (slice_index flow.order p) c 0 inside) cost)
  ];
  few = λ place h low. elim (cases_lt p place) [
    | inl over ↦
        let above : q ≤ place = omega arith in
        rw (get_or-set_other table (slice_index flow.order p) (slice_index flow.order place) c 0 (apart place low over)) (later.few place above low)
    | inr under ↦
        let same : p ≡ place = omega arith in
        subst (λ (k : ℕ). slice_index (slice_set table (slice_index flow.order p) c) (slice_index flow.order k) + 32 * k ≤ 32 * length flow.order) same
        (rw (get_or-set_same table (slice_index flow.order p) c 0 inside) few)
  ];
}
  where
    inside : slice_index flow.order p < length table
    inside = let within : slice_index flow.order p < length flow.code = at_within flow p f lt in omega (arith, later.slots)

    apart : (place : ℕ) → place < length flow.order → p < place → slice_index flow.order place ≢ slice_index flow.order p
    apart place low over = λ same. let one : place ≡ p = f.order.once place p low lt same in omega arith

-- once the table is filled down to the first place, it has the costs of all slots
pub costs_all : (flow : Flow) (table : List ℕ) (from : ℕ) → IsFlow flow → AreCostsFrom flow table from → from ≡ 0 → AreCosts flow.code table
costs_all flow table from f later e = record {
  slots = later.slots;
  each = λ s b.
      let i = f.order.each s b in
      let above : from ≤ i.0 = omega arith in
      subst (λ (t : ℕ). IsCost flow.code t (slice_index table t)) i.2 (later.each i.0 above i.1);
}

-- what is behind a reference that is there
pub is_there : (r : Option (Bor Insn)) (o : Option Insn) (i : Insn) → option_copied r ≡ o → o ≡ Some i → IsSome r
is_there None o i e f = absurd (cc)
is_there (Some x) o i e f = search rules
