-- Marks at the slots that paths lead to.
use Rattle.std.proofs.Common.{◌≡◌, ℕ, ◌+◌, ◌<◌, ◌⊎◌, List, [], ◌∷◌, ◌++◌, length, Some, None, Option, ap, sym, ◌∙◌, arith, refl, inl, inr, Bool, true, false, slice_set, slice_index_or, sum_by, subst, get_or, replicate}
use Rattle.std.proofs.lemmas.Bool.{cases_lt}
use Rattle.std.proofs.lemmas.List.{get_or-set_same, get_or-set_other, get_or_default, get_or-replicate, get_or_past, length-replicate}
use Rattle.std.proofs.lemmas.List.Sums.{sum_by-set}
use Rattle.std.proofs.Math.ListN.{length-set}
use Rattle.flow_graph.specs.declared.graph.Next.TheVariants.{Zero, One, Two}
use Rattle.machine_model.specs.Edges.{Code, Fact, Always, NotTaken, Taken, IsEdge, Begins, leads_at}
use Rattle.machine_model.specs.Paths.{IsReached, IsPathTo}
use Rattle.flow_graph.specs.Cycles.{IsJoint, IsPath}
use Rattle.flow_graph.specs.Flow.{IsIn, IsJoined, AreNext}
use Rattle.flow_graph.specs.Reached.{IsMarked, AreAhead, AreSpread, IsMarkedOn, IsFirstUnreached, left_mark}
use Rattle.flow_graph.proofs.CodeLemmas.{begins_below}
use Rattle.flow_graph.proofs.Lists.{one_way, one_longer, in_old, in_new, in_either, in_none}

clash : (b : Bool) → b ≡ true → b ≡ false → ⊥
clash b p q = cc

marked_same : (marks : List Bool) (t s : ℕ) → t < length marks → s ≡ t → IsMarked (slice_set marks t true) s
marked_same marks t s lt e = subst (IsMarked (slice_set marks t true)) (sym e) (get_or-set_same marks t true false lt)

marked_still : (marks : List Bool) (t s : ℕ) → t < length marks → IsMarked marks s → IsMarked (slice_set marks t true) s
marked_still marks t s lt h = elim (one_way s t) [
  | inl e ↦ marked_same marks t s lt e
  | inr ne ↦ get_or-set_other marks t s true false ne ∙ h
]

marked_only : (marks : List Bool) (t s : ℕ) → IsMarked (slice_set marks t true) s → IsMarked marks s ⊎ (s ≡ t)
marked_only marks t s h = elim (one_way s t) [
  | inl e ↦ inr e
  | inr ne ↦ inl (sym (get_or-set_other marks t s true false ne) ∙ h)
]

-- a slot that wasn't marked
pub marked_on : (marks : List Bool) (pending : List ℕ) (t : ℕ) (b : Bool) → t < length marks → b ≡ slice_index_or marks t b → b ≡ false →
    IsMarkedOn marks (slice_set marks t true) pending (pending ++ t ∷ []) t
marked_on marks pending t b lt is off =
    let none : get_or marks t false ≡ false = sym (is ∙ get_or_default marks t b false lt) ∙ off in
    let sum : sum_by left_mark (slice_set marks t true) + left_mark (get_or marks t false) ≡ sum_by left_mark marks + 0 =
    sum_by-set left_mark marks t true false lt in
    let one : left_mark (get_or marks t false) ≡ 1 = ap left_mark none in
    let long : length (pending ++ t ∷ []) ≡ length pending + 1 = one_longer pending t in
    record {
      slots = length-set marks t true;
      here = get_or-set_same marks t true false lt;
      kept = λ s h. marked_still marks t s lt h;
      only = λ s h. elim (marked_only marks t s h) [ inl old ↦ inl old | inr e ↦ inr (e, in_new pending t s e) ];
      still = λ s i. in_old pending t s i;
      from = λ s i. in_either pending t s i;
      room = omega arith;
    }

pub none_marked : (marks : List Bool) (n : ℕ) → marks ≡ replicate n false → (s : ℕ) → slice_index_or marks s false ≡ false
none_marked marks n e s = subst (λ (list : List Bool). slice_index_or list s false ≡ false) (sym e) (elim (cases_lt s n) [
  | inl lt ↦ get_or-replicate n s false false lt
  | inr ge ↦ get_or_past (replicate n false) s false (omega (arith, length-replicate n false))
])

pub spread_first : (code : Code) (from : ℕ) (marks : List Bool) (pending : List ℕ) → marks ≡ replicate (length code) false →
    pending ≡ from ∷ [] → AreSpread code from marks pending
spread_first code from marks pending all is =
    let none : (s : ℕ) → slice_index_or marks s false ≡ false = none_marked marks (length code) all in
    record {
      slots = ap length all ∙ length-replicate (length code) false;
      ahead = λ s h. absurd (clash (slice_index_or marks s false) h (none s));
      source = λ s i. elim (in_either [] from s (subst (λ (list : List ℕ). IsIn list s) is i)) [
        | inl old ↦ in_none [] s refl old
        | inr e ↦ inl e
      ];
      onward = λ p h. elim h [
        | inl e ↦ inl (subst (λ (list : List ℕ). IsIn list p) (sym is) (in_new [] from p e))
        | inr m ↦ absurd (clash (slice_index_or marks p false) m (none p))
      ];
    }

pub path_lands : (code : Code) (from : ℕ) → IsJoined code → (path : List ℕ) (s : ℕ) → IsPath code from path s → Begins code s
path_lands code from f [] s h = (f.lands from h.0 s h.1).1
path_lands code from f (p ∷ path) s h = (f.lands p h.0.0 s h.0.1).1

-- an instruction begins at a pending slot
pub begins_pending : (code : Code) (from : ℕ) (marks : List Bool) (before pending : List ℕ) (slot : ℕ) → before ≡ pending ++ slot ∷ [] →
    IsJoined code → Begins code from → AreSpread code from marks before → Begins code slot
begins_pending code from marks before pending slot is f first a =
    elim (a.source slot (subst (λ (list : List ℕ). IsIn list slot) (sym is) (in_new pending slot slot refl))) [
      | inl e ↦ subst (Begins code) (sym e) first
      | inr m ↦ let p = a.ahead slot m in path_lands code from f p.0 slot p.1
    ]

spread_on : (code : Code) (from : ℕ) (marks new : List Bool) (before pending later : List ℕ) (slot : ℕ) → before ≡ pending ++ slot ∷ [] →
    AreSpread code from marks before →
    length new ≡ length marks → ((s : ℕ) → IsMarked marks s → IsMarked new s) →
    ((s : ℕ) → IsJoint code slot s → IsMarked new s) →
    ((s : ℕ) → IsMarked new s → IsMarked marks s ⊎ (IsJoint code slot s × IsIn later s)) →
    ((s : ℕ) → IsIn pending s → IsIn later s) →
    ((s : ℕ) → IsIn later s → IsIn pending s ⊎ IsMarked new s) → AreSpread code from new later
spread_on code from marks new before pending later slot is a len kept each only still source = record {
  slots = len ∙ a.slots;
  ahead = λ s h. elim (only s h) [
    | inl old ↦ a.ahead s old
    | inr found ↦ elim (a.source slot (subst (λ (list : List ℕ). IsIn list slot) (sym is) (in_new pending slot slot refl))) [
      | inl e ↦ ([], subst (λ (p : ℕ). IsJoint code p s) e found.0)
      | inr m ↦ (slot ∷ (a.ahead slot m).0, (found.0, (a.ahead slot m).1))
    ]
  ];
  source = λ s i. elim (source s i) [
    | inl old ↦ elim (a.source s (subst (λ (list : List ℕ). IsIn list s) (sym is) (in_old pending slot s old))) [
      | inl e ↦ inl e
      | inr m ↦ inr (kept s m)
    ]
    | inr m ↦ inr m
  ];
  onward = λ p h. elim h [
    | inl e ↦ goes p (a.onward p (inl e))
    | inr m ↦ elim (only p m) [
      | inl old ↦ goes p (a.onward p (inr old))
      | inr found ↦ inl found.1
    ]
  ];
}
  where
    goes : (p : ℕ) → IsIn before p ⊎ ((s : ℕ) → IsJoint code p s → IsMarked marks s) →
        IsIn later p ⊎ ((s : ℕ) → IsJoint code p s → IsMarked new s)
    goes p h = elim h [
      | inl i ↦ elim (in_either pending slot p (subst (λ (list : List ℕ). IsIn list p) is i)) [
        | inl old ↦ inl (still p old)
        | inr same ↦ inr (λ s joint. each s (subst (λ (q : ℕ). IsJoint code q s) same joint))
      ]
      | inr all ↦ inr (λ s joint. kept s (all s joint))
    ]

same_end : (o : Option ℕ) (s t : ℕ) → o ≡ Some s → o ≡ Some t → s ≡ t
same_end o s t a b = cc

no_end : {P : Type 0} (o : Option ℕ) (s : ℕ) → o ≡ Some s → o ≡ None → P
no_end o s a b = absurd (cc)

pub spread_zero : (code : Code) (from : ℕ) (marks : List Bool) (before pending : List ℕ) (slot : ℕ) → before ≡ pending ++ slot ∷ [] →
    AreSpread code from marks before → AreNext code slot Zero → AreSpread code from marks pending
spread_zero code from marks before pending slot is a next =
    spread_on code from marks marks before pending pending slot is a refl (λ s h. h)
    (λ s joint. no_end (leads_at code slot joint.0) s joint.1 (next.1 joint.0)) (λ s h. inl h) (λ s i. i) (λ s i. inl i)

pub spread_one : (code : Code) (from : ℕ) (marks new : List Bool) (before pending later : List ℕ) (slot t : ℕ) → before ≡ pending ++ slot ∷ [] →
    AreSpread code from marks before → AreNext code slot (One t) → IsMarkedOn marks new pending later t → AreSpread code from new later
spread_one code from marks new before pending later slot t is a next m =
    spread_on code from marks new before pending later slot is a m.slots m.kept
    (λ s joint. each joint.0 s joint.1)
    (λ s h. elim (m.only s h) [
      | inl old ↦ inl old
      | inr here ↦ inr ((Always, subst (IsEdge code slot Always) (sym here.0) next.0), here.1)
    ])
    m.still
    (λ s i. elim (m.from s i) [ inl old ↦ inl old | inr e ↦ inr (subst (IsMarked new) (sym e) m.here) ])
  where
    each : (fact : Fact) (s : ℕ) → IsEdge code slot fact s → IsMarked new s
    each Always s edge = subst (IsMarked new) (same_end (leads_at code slot Always) t s next.0 edge) m.here
    each NotTaken s edge = no_end (leads_at code slot NotTaken) s edge next.1
    each Taken s edge = no_end (leads_at code slot Taken) s edge next.2

pub spread_two : (code : Code) (from : ℕ) (marks some new : List Bool) (before pending more later : List ℕ) (slot t u : ℕ) → before ≡ pending ++ slot ∷ [] →
    AreSpread code from marks before → AreNext code slot (Two t u) → IsMarkedOn marks some pending more t → IsMarkedOn some new more later u →
    AreSpread code from new later
spread_two code from marks some new before pending more later slot t u is a next m n =
    spread_on code from marks new before pending later slot is a (n.slots ∙ m.slots) (λ s h. n.kept s (m.kept s h))
    (λ s joint. each joint.0 s joint.1)
    (λ s h. elim (n.only s h) [
      | inl old ↦ elim (m.only s old) [
        | inl older ↦ inl older
        | inr here ↦ inr ((NotTaken, subst (IsEdge code slot NotTaken) (sym here.0) next.1), n.still s here.1)
      ]
      | inr here ↦ inr ((Taken, subst (IsEdge code slot Taken) (sym here.0) next.2), here.1)
    ])
    (λ s i. n.still s (m.still s i))
    (λ s i. elim (n.from s i) [
      | inl old ↦ elim (m.from s old) [
        | inl older ↦ inl older
        | inr e ↦ inr (n.kept s (subst (IsMarked some) (sym e) m.here))
      ]
      | inr e ↦ inr (subst (IsMarked new) (sym e) n.here)
    ])
  where
    each : (fact : Fact) (s : ℕ) → IsEdge code slot fact s → IsMarked new s
    each Always s edge = no_end (leads_at code slot Always) s edge next.0
    each NotTaken s edge = subst (IsMarked new) (same_end (leads_at code slot NotTaken) t s next.1 edge) (n.kept t m.here)
    each Taken s edge = subst (IsMarked new) (same_end (leads_at code slot Taken) u s next.2 edge) n.here

-- once nothing is pending, all edges are followed
pub spread_all : (code : Code) (from : ℕ) (marks : List Bool) (pending : List ℕ) → AreSpread code from marks pending → length pending ≡ 0 →
    AreAhead code from marks
spread_all code from marks pending a empty = record {
  slots = a.slots;
  ahead = a.ahead;
  each = λ path s h. each code from marks pending a empty path s h;
}
  where
    goes : (code : Code) (from : ℕ) (marks : List Bool) (pending : List ℕ) → AreSpread code from marks pending → length pending ≡ 0 →
        (p s : ℕ) → (p ≡ from) ⊎ IsMarked marks p → IsJoint code p s → IsMarked marks s
    goes code from marks pending a empty p s h joint = elim (a.onward p h) [
      | inl i ↦ in_none pending p empty i
      | inr all ↦ all s joint
    ]

    each : (code : Code) (from : ℕ) (marks : List Bool) (pending : List ℕ) → AreSpread code from marks pending → length pending ≡ 0 →
        (path : List ℕ) (s : ℕ) → IsPath code from path s → IsMarked marks s
    each code from marks pending a empty [] s h = goes code from marks pending a empty from s (inl refl) h
    each code from marks pending a empty (p ∷ path) s h =
        goes code from marks pending a empty p s (inr (each code from marks pending a empty path p h.1)) h.0

-- paths from slot 0
pub reached_of : (code : Code) (path : List ℕ) (s : ℕ) → IsPath code 0 path s → IsReached code s
reached_of code [] s h = (0 ∷ [], (h, refl))
reached_of code (p ∷ path) s h = let r = reached_of code path p h.1 in (p ∷ r.0, (h.0, r.1))

reached_marked : (code : Code) (marks : List Bool) → AreAhead code 0 marks → (path : List ℕ) (s : ℕ) → IsPathTo code path s →
    (s ≡ 0) ⊎ IsMarked marks s
reached_marked code marks a [] s h = inl h
reached_marked code marks a (p ∷ path) s h = elim (reached_marked code marks a path p h.1) [
  | inl e ↦ inr (a.each [] s (subst (λ (q : ℕ). IsJoint code q s) e h.0))
  | inr m ↦ let before = a.ahead p m in inr (a.each (p ∷ before.0) s (h.0, before.1))
]

pub reached_there : (code : Code) (marks : List Bool) (s : ℕ) (b : Bool) → AreAhead code 0 marks → s < length code →
    b ≡ slice_index_or marks s b → b ≡ true → IsReached code s
reached_there code marks s b a lt is on =
    let inside : s < length marks = omega (arith, a.slots) in
    let p = a.ahead s (sym (is ∙ get_or_default marks s b false inside) ∙ on) in
    reached_of code p.0 s p.1

pub reached_next : (code : Code) (marks : List Bool) (k : ℕ) (b : Bool) → AreAhead code 0 marks → k < length code →
    b ≡ slice_index_or marks k b → b ≡ true → ((s : ℕ) → s < k → Begins code s → IsReached code s) →
    (s : ℕ) → s < k + 1 → Begins code s → IsReached code s
reached_next code marks k b a lt is on below s h begins = elim (cases_lt s k) [
  | inl low ↦ below s low begins
  | inr high ↦
      let same : s ≡ k = omega arith in
      subst (IsReached code) (sym same) (reached_there code marks k b a lt is on)
]

pub reached_none : (code : Code) (k : ℕ) → (Begins code k → ⊥) → ((s : ℕ) → s < k → Begins code s → IsReached code s) →
    (s : ℕ) → s < k + 1 → Begins code s → IsReached code s
reached_none code k none below s h begins = elim (cases_lt s k) [
  | inl low ↦ below s low begins
  | inr high ↦
      let same : s ≡ k = omega arith in
      absurd (none (subst (Begins code) same begins))
]

pub first_unmarked : (code : Code) (marks : List Bool) (k : ℕ) (b : Bool) → AreAhead code 0 marks →
    Begins code k → 0 < k → b ≡ slice_index_or marks k b → b ≡ false → ((s : ℕ) → s < k → Begins code s → IsReached code s) → IsFirstUnreached code k
first_unmarked code marks k b a begins up is off least =
    let lt : k < length code = begins_below code k begins in
    let inside : k < length marks = omega (arith, a.slots) in
    let unmarked : slice_index_or marks k false ≡ false = sym (is ∙ get_or_default marks k b false inside) ∙ off in
    record {
      begins = begins;
      unreached = λ r. elim (reached_marked code marks a r.0 k r.1) [
        | inl e ↦ absurd (omega arith)
        | inr m ↦ clash (slice_index_or marks k false) m unmarked
      ];
      least = least;
    }
