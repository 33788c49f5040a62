-- A program's slots as an order, where each edge leads to a later one.
use Rattle.std.proofs.Common.{◌≡◌, ℕ, ◌+◌, ◌≤◌, ◌<◌, ◌⊎◌, List, [], ◌∷◌, ◌++◌, length, Option, Some, None, ap, sym, ◌∙◌, arith, inl, inr, Bool, true, false, slice_set, slice_index, slice_index_or, subst, replicate}
use Rattle.std.proofs.lemmas.Bool.{cases_lt}
use Rattle.std.proofs.lemmas.List.{get_or-set_other, get_or_default, length-replicate}
use Rattle.std.proofs.Math.ListN.{length-set}
use Rattle.machine_model.specs.Edges.{Code, Begins}
use Rattle.machine_model.specs.Paths.{IsReached}
use Rattle.flow_graph.specs.Cycles.{IsJoint}
use Rattle.flow_graph.specs.Forward.{IsForward, IsForwardTo}
use Rattle.flow_graph.specs.Reached.{IsMarked}
use Rattle.flow_graph.proofs.CodeLemmas.{begins_below}
use Rattle.flow_graph.proofs.OrderLemmas.{joint_begins}
use Rattle.flow_graph.proofs.Lists.{one_way, at_old, at_new, one_longer, in_old, in_new}
use Rattle.flow_graph.proofs.Marks.{none_marked}

clash : (b : Bool) → b ≡ true → b ≡ false → ⊥
clash b p q = cc

same_end : (o : Option ℕ) (s t : ℕ) → o ≡ Some s → o ≡ Some t → s ≡ t
same_end o s t a b = cc

no_end : {P : Type 0} (o : Option ℕ) (s : ℕ) → o ≡ Some s → o ≡ None → P
no_end o s a b = absurd (cc)

-- one more slot is marked
pub marked_more : (marks : List Bool) (t s : ℕ) → IsMarked (slice_set marks t true) s → IsMarked marks s ⊎ (s ≡ t)
marked_more marks t s h = elim (one_way s t) [
  | inl e ↦ inr e
  | inr ne ↦ inl (sym (get_or-set_other marks t s true false ne) ∙ h)
]

-- the first slot alone is marked
pub forward_first : (code : Code) (marks : List Bool) → marks ≡ replicate (length code) false → IsForwardTo code 0 (slice_set marks 0 true) []
forward_first code marks all = record {
  slots = length-set marks 0 true ∙ ap length all ∙ length-replicate (length code) false;
  marked = λ s h. elim (marked_more marks 0 s h) [
    | inl old ↦ absurd (clash (slice_index_or marks s false) old (none_marked marks (length code) all s))
    | inr e ↦ ([], e)
  ];
  begins = λ place lt. absurd (omega arith);
  below = λ place lt. absurd (omega arith);
  each = λ s lt. absurd (omega arith);
  rising = λ p q lt h. absurd (omega arith);
  onward = λ p s lt. absurd (omega arith);
  reached = λ s lt. absurd (omega arith);
  short = omega arith;
}

-- where no instruction begins
pub forward_none : (code : Code) (n : ℕ) (marks : List Bool) (order : List ℕ) → IsForwardTo code n marks order → (Begins code n → ⊥) →
    IsForwardTo code (n + 1) marks order
forward_none code n marks order f none = record {
  slots = f.slots;
  marked = f.marked;
  begins = f.begins;
  below = λ place lt. let low : slice_index order place < n = f.below place lt in omega arith;
  each = λ s lt b. elim (cases_lt s n) [
    | inl low ↦ f.each s low b
    | inr high ↦ absurd (none (subst (Begins code) (same s lt high) b))
  ];
  rising = f.rising;
  onward = λ p s lt joint. elim (cases_lt p n) [
    | inl low ↦ f.onward p s low joint
    | inr high ↦ absurd (none (subst (Begins code) (same p lt high) (joint_begins code p s joint)))
  ];
  reached = λ s lt b. elim (cases_lt s n) [
    | inl low ↦ f.reached s low b
    | inr high ↦ absurd (none (subst (Begins code) (same s lt high) b))
  ];
  short = let few : length order ≤ n = f.short in omega arith;
}
  where
    same : (s : ℕ) → s < n + 1 → n ≤ s → s ≡ n
    same s lt high = omega arith

-- where one does that is reached, and leads on
pub forward_more : (code : Code) (n : ℕ) (marks new : List Bool) (order : List ℕ) (b : Bool) → IsForwardTo code n marks order → n < length code →
    Begins code n → b ≡ slice_index_or marks n b → b ≡ true → length new ≡ length code →
    ((s : ℕ) → IsJoint code n s → n < s) → ((s : ℕ) → IsMarked new s → IsMarked marks s ⊎ IsJoint code n s) →
    IsForwardTo code (n + 1) new (order ++ n ∷ [])
forward_more code n marks new order b f lt begins is on len onward marked =
    let inside : n < length marks = omega (arith, f.slots) in
    let here : IsReached code n = f.marked n (sym (is ∙ get_or_default marks n b false inside) ∙ on) in
    record {
      slots = len;
      marked = λ s h. elim (marked s h) [
        | inl old ↦ f.marked s old
        | inr joint ↦ (n ∷ here.0, (joint, here.1))
      ];
      begins = λ place h. elim (cases_lt place (length order)) [
        | inl low ↦ subst (Begins code) (sym (at_old order n place low)) (f.begins place low)
        | inr high ↦ subst (Begins code) (sym (at_new order n place (last place h high))) begins
      ];
      below = λ place h. elim (cases_lt place (length order)) [
        | inl low ↦ let before : slice_index order place < n = f.below place low in omega (arith, at_old order n place low)
        | inr high ↦ omega (arith, at_new order n place (last place h high))
      ];
      each = λ s h b. elim (cases_lt s n) [
        | inl low ↦ in_old order n s (f.each s low b)
        | inr high ↦ in_new order n s (same s h high)
      ];
      rising = λ p q less h. elim (cases_lt q (length order)) [
        | inl low ↦
            let first : p < length order = omega arith in
            let before : slice_index order p < slice_index order q = f.rising p q less low in
            omega (arith, at_old order n p first, at_old order n q low)
        | inr high ↦
            let is_last : q ≡ length order = last q h high in
            let first : p < length order = omega arith in
            let before : slice_index order p < n = f.below p first in
            omega (arith, at_old order n p first, at_new order n q is_last)
      ];
      onward = λ p s h joint. elim (cases_lt p n) [
        | inl low ↦ f.onward p s low joint
        | inr high ↦
            let e : p ≡ n = same p h high in
            let less : n < s = onward s (subst (λ (q : ℕ). IsJoint code q s) e joint) in
            omega arith
      ];
      reached = λ s h b. elim (cases_lt s n) [
        | inl low ↦ f.reached s low b
        | inr high ↦ subst (IsReached code) (sym (same s h high)) here
      ];
      short = let few : length order ≤ n = f.short in omega (arith, one_longer order n);
    }
  where
    same : (s : ℕ) → s < n + 1 → n ≤ s → s ≡ n
    same s lt high = omega arith

    last : (place : ℕ) → place < length (order ++ n ∷ []) → length order ≤ place → place ≡ length order
    last place h high = omega (arith, one_longer order n)

-- at the end of the code
pub forward_all : (code : Code) (n : ℕ) (marks : List Bool) (order : List ℕ) → n ≡ length code → IsForwardTo code n marks order →
    IsForward code order
forward_all code n marks order end f = record {
  order = record {
    begins = f.begins;
    each = λ s b. let lt : s < length code = begins_below code s b in let below : s < n = omega arith in f.each s below b;
    once = λ p q lp lq e. elim (cases_lt p q) [
      | inl less ↦ let up : slice_index order p < slice_index order q = f.rising p q less lq in absurd (omega arith)
      | inr most ↦ elim (cases_lt q p) [
        | inl less ↦ let up : slice_index order q < slice_index order p = f.rising q p less lp in absurd (omega arith)
        | inr least ↦ omega arith
      ]
    ];
    onward = λ p q fact lp lq edge.
        let low : slice_index order p < n = f.below p lp in
        let up : slice_index order p < slice_index order q = f.onward (slice_index order p) (slice_index order q) low (fact, edge) in
        elim (cases_lt p q) [
          | inl less ↦ less
          | inr most ↦ elim (cases_lt q p) [
            | inl less ↦ let down : slice_index order q < slice_index order p = f.rising q p less lp in absurd (omega arith)
            | inr least ↦
                let same : p ≡ q = omega arith in
                let e : slice_index order p ≡ slice_index order q = ap (slice_index order) same in
                absurd (omega arith)
          ]
        ];
  };
  short = let few : length order ≤ n = f.short in omega arith;
  reached = λ s b. let lt : s < length code = begins_below code s b in let below : s < n = omega arith in f.reached s below b;
}
