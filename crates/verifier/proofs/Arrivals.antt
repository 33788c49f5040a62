-- What arrives at each slot of a program that has an order.
use Rattle.std.proofs.Common.{◌≡◌, ℕ, zero, suc, ◌+◌, ◌≤◌, ◌<◌, ◌≢◌, ◌==◌, List, [], ◌∷◌, length, slice_index, Some, None, Option, ap, sym, ◌∙◌, arith, refl, subst, inl, inr, if◌then◌else◌}
use Rattle.std.proofs.lemmas.Bool.{cases_eq}
use Rattle.std.proofs.lemmas.Bool.Decides.{nat_tests}
use Rattle.insn_codec.specs.declared.insn.Insn.{Insn}
use Rattle.machine_model.specs.Edges.{Code, Fact, Always, NotTaken, Taken, IsEdge, Begins, insn_at, leads_at}
use Rattle.machine_model.proofs.Codes.{begins_within}
use Rattle.machine_model.specs.Paths.{IsPathTo}
use Rattle.flow_graph.specs.Flow.{IsJoined, IsOrder, IsFlow}
use Rattle.flow_graph.proofs.OrderLemmas.{joint_begins, no_cycle}
use Rattle.flow_graph.specs.Cycles.{IsJoint}
use Rattle.verifier.specs.InStates.{Subject, InState, Unreached, Undefined, Reached, joined_in_state, out_state, if_leads_to, edge_state, joined_edges, in_state_by, AreInStates, in_state_within, in_state}

pub met_nothing : (a : InState) → joined_in_state a Unreached ≡ a
met_nothing Unreached = refl
met_nothing Undefined = refl
met_nothing (Reached state) = refl

landed_not : (t s : ℕ) (a : InState) → t ≢ s → (if t == s then a else Unreached) ≡ Unreached
landed_not t s a ne = grind (arith, nat_tests)

-- nothing lands where the edge doesn't lead
landed_nothing : (o : Option ℕ) (s : ℕ) (a : InState) → ((t : ℕ) → o ≡ Some t → t ≢ s) → if_leads_to o s a ≡ Unreached
landed_nothing None s a ne = refl
landed_nothing (Some t) s a ne = landed_not t s a (ne t refl)

-- nothing passes where no edge leads
pub over_none : (p : Subject) (a : ℕ → InState) (s k : ℕ) (fact : Fact) → (IsEdge p.code k fact s → ⊥) → edge_state p a s k fact ≡ Unreached
over_none p a s k fact none = landed_nothing (leads_at p.code k fact) s (out_state p (insn_at p.code k) fact (a k))
    (λ t e same. none (subst (λ (u : ℕ). leads_at p.code k fact ≡ Some u) same e))

-- what passes an edge comes from its slot alone
over_same : (p : Subject) (a b : ℕ → InState) (s k : ℕ) (fact : Fact) → (IsEdge p.code k fact s → a k ≡ b k) →
    edge_state p a s k fact ≡ edge_state p b s k fact
over_same p a b s k fact same = by_end (leads_at p.code k fact) same
  where
    by_end : (o : Option ℕ) → (o ≡ Some s → a k ≡ b k) →
        if_leads_to o s (out_state p (insn_at p.code k) fact (a k)) ≡ if_leads_to o s (out_state p (insn_at p.code k) fact (b k))
    by_end None h = refl
    by_end (Some t) h = elim (cases_eq t s) [
      | inl e ↦ ap (λ (x : InState). if_leads_to (Some t) s (out_state p (insn_at p.code k) fact x)) (h (ap Some e))
      | inr ne ↦ landed_not t s (out_state p (insn_at p.code k) fact (a k)) ne ∙ sym (landed_not t s (out_state p (insn_at p.code k) fact (b k)) ne)
    ]

three : (x a b c : InState) → a ≡ Unreached → b ≡ Unreached → c ≡ Unreached → joined_in_state (joined_in_state (joined_in_state x a) b) c ≡ x
three x a b c p q r = simp (p, q, r, met_nothing)

-- a slot that doesn't lead there adds nothing
pub joined_over_none : (p : Subject) (a : ℕ → InState) (s k : ℕ) → ((fact : Fact) → IsEdge p.code k fact s → ⊥) →
    joined_edges p a s (suc k) ≡ joined_edges p a s k
joined_over_none p a s k none =
    three (joined_edges p a s k) (edge_state p a s k Always) (edge_state p a s k NotTaken) (edge_state p a s k Taken)
    (over_none p a s k Always (none Always)) (over_none p a s k NotTaken (none NotTaken)) (over_none p a s k Taken (none Taken))

-- nor do all the slots from m on up to n
pub joined_over_stops : (p : Subject) (a : ℕ → InState) (s m d n : ℕ) → n ≡ d + m →
    ((k : ℕ) → m ≤ k → k < n → (fact : Fact) → IsEdge p.code k fact s → ⊥) → joined_edges p a s n ≡ joined_edges p a s m
joined_over_stops p a s m zero n e none = ap (joined_edges p a s) (let h : n ≡ m = omega arith in h)
joined_over_stops p a s m (suc d) zero e none = absurd (omega arith)
joined_over_stops p a s m (suc d) (suc n) e none =
    let le : m ≤ n = omega arith in
    let lt : n < suc n = omega arith in
    joined_over_none p a s n (none n le lt)
    ∙ joined_over_stops p a s m d n (omega arith) (λ k l h. let h' : k < suc n = omega arith in none k l h')

-- what arrives at a slot comes from the slots that lead there alone
pub arriving_same : (p : Subject) (a b : ℕ → InState) (s n : ℕ) → ((k : ℕ) (fact : Fact) → IsEdge p.code k fact s → a k ≡ b k) →
    in_state_by p a s n ≡ in_state_by p b s n
arriving_same p a b zero n same = refl
arriving_same p a b (suc s) zero same = refl
arriving_same p a b (suc s) (suc k) same =
    let r : joined_edges p a (suc s) k ≡ joined_edges p b (suc s) k = arriving_same p a b (suc s) k same in
    let x : edge_state p a (suc s) k Always ≡ edge_state p b (suc s) k Always = over_same p a b (suc s) k Always (same k Always) in
    let y : edge_state p a (suc s) k NotTaken ≡ edge_state p b (suc s) k NotTaken = over_same p a b (suc s) k NotTaken (same k NotTaken) in
    let z : edge_state p a (suc s) k Taken ≡ edge_state p b (suc s) k Taken = over_same p a b (suc s) k Taken (same k Taken) in
    four r x y z
  where
    four : {v w x y z : InState} {p q r : InState} → v ≡ w → x ≡ p → y ≡ q → z ≡ r → joined_in_state (joined_in_state (joined_in_state v x) y) z ≡ joined_in_state (joined_in_state (joined_in_state w p) q) r
    four e f g h = cc

-- each slot that leads to this one has one of the first n places
abbrev pub AreBehind : Subject → List ℕ → ℕ → ℕ → Type 0
AreBehind p order s n = (k : ℕ) (fact : Fact) → IsEdge p.code k fact s → (place : ℕ) × (place < n) × (place < length order) × (slice_index order place ≡ k)

-- those that lead to the slot at a place have a place ahead of it
pub behind_place : (p : Subject) (order : List ℕ) (place : ℕ) → IsOrder p.code order → place < length order →
    AreBehind p order (slice_index order place) place
behind_place p order place f lt k fact edge =
    let from = f.each k (joint_begins p.code k (slice_index order place) (fact, edge)) in
    let on = subst (λ (x : ℕ). IsEdge p.code x fact (slice_index order place)) (sym from.2) edge in
    (from.0, f.onward from.0 place fact from.1 lt on, from.1, from.2)

pub behind_below : (p : Subject) (order : List ℕ) (place n : ℕ) → IsOrder p.code order → place ≤ n → place < length order →
    AreBehind p order (slice_index order place) n
behind_below p order place n f le lt k fact edge =
    let at = behind_place p order place f lt k fact edge in
    let below : at.0 < place = at.1 in
    let low : at.0 < n = omega (arith, below, le) in (at.0, low, at.2, at.3)

-- and those that lead to any slot have a place
pub behind_all : (p : Subject) (order : List ℕ) (s : ℕ) → IsOrder p.code order → AreBehind p order s (length order)
behind_all p order s f k fact edge =
    let from = f.each k (joint_begins p.code k s (fact, edge)) in (from.0, from.1, from.1, from.2)

-- there is only one solution
unique_at : (p : Subject) (a b : ℕ → InState) (order : List ℕ) (n s : ℕ) → IsJoined p.code → IsOrder p.code order → AreInStates p a → AreInStates p b →
    AreBehind p order s n → s < length p.code → a s ≡ b s
unique_at p a b order zero s j f x y behind within =
    x s within
    ∙ (arriving_same p a b s (length p.code) (λ k fact edge. absurd (none (behind k fact edge)))
    ∙ sym (y s within))
  where
    none : {k : ℕ} → (place : ℕ) × (place < 0) × (place < length order) × (slice_index order place ≡ k) → ⊥
    none h = let lt : h.0 < 0 = h.1 in omega (arith, lt)
unique_at p a b order (suc n) s j f x y behind within =
    x s within
    ∙ (arriving_same p a b s (length p.code)
    (λ k fact edge.
    let h = behind k fact edge in
    let below : h.0 < suc n = h.1 in
    let low : h.0 ≤ n = omega (arith, below) in
    unique_at p a b order n k j f x y (subst (λ (u : ℕ). AreBehind p order u n) h.3 (behind_below p order h.0 n f low h.2))
    (begins_within p.code k (joint_begins p.code k s (fact, edge))))
    ∙ sym (y s within))

pub arrive_unique : (p : Subject) (a b : ℕ → InState) (order : List ℕ) (s : ℕ) → IsJoined p.code → IsOrder p.code order → AreInStates p a →
    AreInStates p b → s < length p.code → a s ≡ b s
arrive_unique p a b order s j f x y within = unique_at p a b order (length order) s j f x y (behind_all p order s f) within

-- what arrives by paths of enough slots doesn't change with more
within_same : (p : Subject) (order : List ℕ) (n m l s : ℕ) → IsOrder p.code order → AreBehind p order s n → n < m → n < l →
    in_state_within p m s ≡ in_state_within p l s
within_same p order n zero l s f behind x y = absurd (omega arith)
within_same p order n (suc m) zero s f behind x y = absurd (omega arith)
within_same p order n (suc m) (suc l) s f behind x y =
    arriving_same p (in_state_within p m) (in_state_within p l) s (length p.code)
    (λ k fact edge.
    let h = behind k fact edge in
    let below : h.0 < n = h.1 in
    let left : h.0 < m = omega (arith, below, x) in
    let right : h.0 < l = omega (arith, below, y) in
    within_same p order h.0 m l k f (subst (λ (u : ℕ). AreBehind p order u h.0) h.3 (behind_place p order h.0 f h.2)) left right)

-- at the slot of a place
pub arrive_at_place : (p : Subject) (order : List ℕ) (place : ℕ) → IsOrder p.code order → length order ≤ length p.code → place < length order →
    in_state_within p (length p.code) (slice_index order place) ≡ in_state_within p (suc (length p.code)) (slice_index order place)
arrive_at_place p order place f short lt =
    let x : place < length p.code = omega arith in
    let y : place < suc (length p.code) = omega arith in
    within_same p order place (length p.code) (suc (length p.code)) (slice_index order place) f (behind_place p order place f lt) x y

-- there is a solution
pub arrive_is : (p : Subject) (order : List ℕ) → IsJoined p.code → IsOrder p.code order → length order ≤ length p.code → AreInStates p (in_state p)
unfolding in_state
arrive_is p order j f short s within = by_slot (insn_at p.code s) refl
  where
    more : 0 < length p.code
    more = j.starts

    by_slot : (o : Option Insn) → insn_at p.code s ≡ o → in_state_within p (length p.code) s ≡ in_state_within p (suc (length p.code)) s
    by_slot (Some i) there =
        let at = f.each s (i, there) in
        subst (λ (u : ℕ). in_state_within p (length p.code) u ≡ in_state_within p (suc (length p.code)) u) at.2 (arrive_at_place p order at.0 f short at.1)
    by_slot None none =
        let y : 0 < suc (length p.code) = omega arith in
        within_same p order 0 (length p.code) (suc (length p.code)) s f (λ k fact edge. absurd (second (j.lands k fact s edge).1)) more y
      where
        second : Begins p.code s → ⊥
        second b = let e = b.1 in let n = none in cc

-- ---- nothing leads back to the first slot

-- what a path from the first slot leads to stands after it
after_first : (code : Code) (order : List ℕ) (first : ℕ) → IsOrder code order → first < length order → slice_index order first ≡ 0 →
    (path : List ℕ) (place : ℕ) → place < length order → IsPathTo code path (slice_index order place) → first ≤ place
after_first code order first f lt is [] place within here =
    let same : first ≡ place = f.once first place lt within (is ∙ sym here) in
    omega (arith, same)
after_first code order first f lt is (p ∷ path) place within ((fact, edge), before) =
    let at = f.each p (joint_begins code p (slice_index order place) (fact, edge)) in
    let on = subst (λ (k : ℕ). IsEdge code k fact (slice_index order place)) (sym at.2) edge in
    let later : at.0 < place = f.onward at.0 place fact at.1 within on in
    let back = after_first code order first f lt is path at.0 at.1 (subst (λ (k : ℕ). IsPathTo code path k) (sym at.2) before) in
    omega (arith, later, back)

pub no_edge_back : (code : Code) (order : List ℕ) (p : ℕ) (fact : Fact) → IsFlow (record { code = code; order = order }) → IsEdge code p fact 0 → ⊥
no_edge_back code order p fact f edge =
    let begins = joint_begins code p 0 (fact, edge) in
    let first = f.order.each 0 (f.joined.lands p fact 0 edge).1 in
    let at = f.order.each p begins in
    let reached = f.reached p begins in
    let from = subst (λ (k : ℕ). IsEdge code k fact 0) (sym at.2) edge in
    let on = subst (λ (k : ℕ). IsEdge code (slice_index order at.0) fact k) (sym first.2) from in
    let later : at.0 < first.0 = f.order.onward at.0 first.0 fact at.1 first.1 on in
    let back = after_first code order first.0 f.order first.1 first.2 reached.0 at.0 at.1 (subst (λ (k : ℕ). IsPathTo code reached.0 k) (sym at.2) reached.1) in
    omega (arith, later, back)

-- so an edge leads past it
pub joint_past : (code : Code) (order : List ℕ) (p s : ℕ) → IsFlow (record { code = code; order = order }) → IsJoint code p s → 0 < s
joint_past code order p zero f (fact, edge) = absurd (no_edge_back code order p fact f edge)
joint_past code order p (suc s) f joint = omega arith

-- and to another slot
pub joint_apart : (code : Code) (order : List ℕ) (p s : ℕ) → IsOrder code order → IsJoint code p s → p ≢ s
joint_apart code order p s o joint same = no_cycle code order p o ([], subst (λ (k : ℕ). IsJoint code p k) (sym same) joint)
