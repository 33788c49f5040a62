-- The lists of slots by their marks, where one slot's mark is changed.
use Rattle.std.proofs.Common.{◌≡◌, ◌≢◌, ℕ, ◌<◌, ◌⊎◌, List, [], ◌∷◌, ◌++◌, length, slice_set, slice_index, sym, ap, ◌∙◌, arith, refl, inl, inr, subst}
use Rattle.std.proofs.lemmas.Bool.{cases_lt}
use Rattle.std.proofs.lemmas.List.{get_or-set_same, get_or-set_other}
use Rattle.flow_graph.specs.declared.walk.Mark.{Mark}
use Rattle.flow_graph.specs.declared.walk.Mark.TheVariants.{New, Open, Done}
use Rattle.flow_graph.specs.Walks.{mark_at, IsListed, IsFurther}
use Rattle.flow_graph.proofs.Lists.{one_way, at_old, at_new, one_longer, in_old, in_new, in_either}

pub mark_same : (marks : List Mark) (t s : ℕ) (x : Mark) → t < length marks → s ≡ t → mark_at (slice_set marks t x) s ≡ x
mark_same marks t s x lt e = subst (λ (r : ℕ). mark_at (slice_set marks t x) r ≡ x) (sym e) (get_or-set_same marks t x New lt)

pub mark_other : (marks : List Mark) (t s : ℕ) (x : Mark) → s ≢ t → mark_at (slice_set marks t x) s ≡ mark_at marks s
mark_other marks t s x ne = get_or-set_other marks t s x New ne

-- slots with unlike marks differ
unlike : (marks : List Mark) (m : Mark) (s t : ℕ) → mark_at marks s ≡ m → mark_at marks t ≢ m → s ≢ t
unlike marks m s t e ne = λ same. ne (sym (ap (mark_at marks) same) ∙ e)

changed : (marks : List Mark) (m x : Mark) (s t : ℕ) → t < length marks → x ≢ m → mark_at (slice_set marks t x) s ≡ m → s ≢ t
changed marks m x s t lt ne e = λ same. ne (sym (mark_same marks t s x lt same) ∙ e)

pub listed_other : (marks : List Mark) (m x : Mark) (list : List ℕ) (t : ℕ) → t < length marks → IsListed marks m list →
    mark_at marks t ≢ m → x ≢ m → IsListed (slice_set marks t x) m list
listed_other marks m x list t lt l was becomes = record {
  marked = λ k h. mark_other marks t (slice_index list k) x (unlike marks m (slice_index list k) t (l.marked k h) was) ∙ l.marked k h;
  each = λ s e. l.each s (sym (mark_other marks t s x (changed marks m x s t lt becomes e)) ∙ e);
  once = l.once;
}

pub listed_more : (marks : List Mark) (m : Mark) (list : List ℕ) (t : ℕ) → t < length marks → IsListed marks m list →
    mark_at marks t ≢ m → IsListed (slice_set marks t m) m (list ++ t ∷ [])
listed_more marks m list t lt l was = record {
  marked = λ k h. elim (cases_lt k (length list)) [
    | inl low ↦ ap (mark_at (slice_set marks t m)) (at_old list t k low)
        ∙ mark_other marks t (slice_index list k) m (unlike marks m (slice_index list k) t (l.marked k low) was) ∙ l.marked k low
    | inr high ↦
        let e : k ≡ length list = omega (arith, one_longer list t) in
        mark_same marks t (slice_index (list ++ t ∷ []) k) m lt (at_new list t k e)
  ];
  each = λ s e. elim (one_way s t) [
    | inl same ↦ in_new list t s same
    | inr ne ↦ in_old list t s (l.each s (sym (mark_other marks t s m ne) ∙ e))
  ];
  once = λ p q h k e. elim (cases_lt p (length list)) [
    | inl low ↦ elim (cases_lt q (length list)) [
      | inl under ↦ l.once p q low under (sym (at_old list t p low) ∙ e ∙ at_old list t q under)
      | inr over ↦
          let last : q ≡ length list = omega (arith, one_longer list t) in
          absurd (unlike marks m (slice_index list p) t (l.marked p low) was (sym (at_old list t p low) ∙ e ∙ at_new list t q last))
    ]
    | inr high ↦
        let end : p ≡ length list = omega (arith, one_longer list t) in
        elim (cases_lt q (length list)) [
          | inl under ↦
              absurd (unlike marks m (slice_index list q) t (l.marked q under) was (sym (at_old list t q under) ∙ sym e ∙ at_new list t p end))
          | inr over ↦ omega (arith, one_longer list t)
        ]
  ];
}

pub listed_less : (marks : List Mark) (m x : Mark) (list : List ℕ) (t : ℕ) → t < length marks → IsListed marks m (list ++ t ∷ []) →
    x ≢ m → IsListed (slice_set marks t x) m list
listed_less marks m x list t lt l becomes = record {
  marked = λ k h. mark_other marks t (slice_index list k) x (apart k h) ∙ still k h;
  each = λ s e.
      let ne : s ≢ t = changed marks m x s t lt becomes e in
      elim (in_either list t s (l.each s (sym (mark_other marks t s x ne) ∙ e))) [ inl old ↦ old | inr same ↦ absurd (ne same) ];
  once = λ p q h k e. l.once p q (longer p h) (longer q k) (at_old list t p h ∙ e ∙ sym (at_old list t q k));
}
  where
    longer : (k : ℕ) → k < length list → k < length (list ++ t ∷ [])
    longer k h = omega (arith, one_longer list t)

    still : (k : ℕ) → k < length list → mark_at marks (slice_index list k) ≡ m
    still k h = ap (mark_at marks) (sym (at_old list t k h)) ∙ l.marked k (longer k h)

    apart : (k : ℕ) → k < length list → slice_index list k ≢ t
    apart k h = λ same.
        let end : length list < length (list ++ t ∷ []) = omega (arith, one_longer list t) in
        let e : k ≡ length list = l.once k (length list) (longer k h) end (at_old list t k h ∙ same ∙ sym (at_new list t (length list) refl)) in
        omega arith

pub further : (marks : List Mark) (t : ℕ) (x : Mark) → t < length marks → x ≢ New → IsFurther marks (slice_set marks t x)
further marks t x lt becomes = λ s met. elim (one_way s t) [
  | inl same ↦ λ e. becomes (sym (mark_same marks t s x lt same) ∙ e)
  | inr ne ↦ λ e. met (sym (mark_other marks t s x ne) ∙ e)
]

pub which : (m : Mark) → (m ≡ New) ⊎ (m ≡ Open) ⊎ (m ≡ Done)
which New = inl refl
which Open = inr (inl refl)
which Done = inr (inr refl)
