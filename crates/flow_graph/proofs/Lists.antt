-- Lists of slots with one more at the end.
use Rattle.std.proofs.Common.{◌≡◌, ◌≢◌, ℕ, ◌+◌, ◌<◌, ◌⊎◌, List, [], ◌∷◌, ◌++◌, length, length-append, slice_index, sym, ◌∙◌, arith, refl, inl, inr, subst}
use Rattle.std.proofs.lemmas.Bool.{cases_lt}
use Rattle.std.proofs.lemmas.List.{get_or_append_left, get_or_push}
use Rattle.flow_graph.specs.Flow.{IsIn}

pub one_way : (s t : ℕ) → (s ≡ t) ⊎ (s ≢ t)
one_way s t = elim (cases_lt s t) [
  | inl h ↦ inr (omega arith)
  | inr h ↦ elim (cases_lt t s) [ inl k ↦ inr (omega arith) | inr k ↦ inl (omega arith) ]
]

pub at_old : (list : List ℕ) (x k : ℕ) → k < length list → slice_index (list ++ x ∷ []) k ≡ slice_index list k
at_old list x k lt = get_or_append_left list (x ∷ []) 0 k lt

pub at_new : (list : List ℕ) (x k : ℕ) → k ≡ length list → slice_index (list ++ x ∷ []) k ≡ x
at_new list x k e = get_or_push list x 0 k (sym e)

pub one_longer : (list : List ℕ) (x : ℕ) → length (list ++ x ∷ []) ≡ length list + 1
one_longer list x = length-append list (x ∷ [])

pub in_old : (list : List ℕ) (x s : ℕ) → IsIn list s → IsIn (list ++ x ∷ []) s
in_old list x s i =
    let lt : i.0 < length list = i.1 in
    (i.0, omega (arith, one_longer list x), at_old list x i.0 lt ∙ i.2)

pub in_new : (list : List ℕ) (x s : ℕ) → s ≡ x → IsIn (list ++ x ∷ []) s
in_new list x s e = (length list, omega (arith, one_longer list x), at_new list x (length list) refl ∙ sym e)

pub in_either : (list : List ℕ) (x s : ℕ) → IsIn (list ++ x ∷ []) s → IsIn list s ⊎ (s ≡ x)
in_either list x s i = elim (cases_lt i.0 (length list)) [
  | inl lt ↦ inl (i.0, lt, sym (at_old list x i.0 lt) ∙ i.2)
  | inr ge ↦
      let within : i.0 < length (list ++ x ∷ []) = i.1 in
      let e : i.0 ≡ length list = omega (arith, one_longer list x) in
      inr (sym i.2 ∙ at_new list x i.0 e)
]

pub in_none : {P : Type 0} (list : List ℕ) (s : ℕ) → length list ≡ 0 → IsIn list s → P
in_none list s e i = let lt : i.0 < length list = i.1 in absurd (omega arith)

-- what holds below, and of one more
pub next_all : (P : ℕ → Type 0) (k : ℕ) → ((s : ℕ) → s < k → P s) → P k → (s : ℕ) → s < k + 1 → P s
next_all P k below here s lt = elim (cases_lt s k) [
  | inl low ↦ below s low
  | inr high ↦ let same : k ≡ s = omega arith in subst P same here
]
