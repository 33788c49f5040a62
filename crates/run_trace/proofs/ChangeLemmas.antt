-- One change more, or none.
use Rattle.std.proofs.Common.{◌≡◌, ◌≢◌, ◌⊎◌, ℕ, zero, suc, ◌+◌, ◌≤◌, ◌<◌, List, [], ◌∷◌, ◌++◌, length, slice_get, Some, None, inl, inr, refl, sym, subst, ap, ◌∙◌, arith}
use Rattle.std.proofs.lemmas.Bool.{cases_lt}
use Rattle.std.proofs.lemmas.List.{get_or_past}
use Rattle.machine_model.specs.Value.{Registers}
use Rattle.reference.specs.declared.records.Content.{Content}
use Rattle.reference.specs.declared.records.Content.TheVariants as content
use Rattle.reference.specs.Records.{registers_of, value_of}
use Rattle.run_trace.specs.declared.step.RegisterChange.{RegisterChange}
use Rattle.run_trace.specs.Steps.{AreChanges}

nothing : (c : RegisterChange) → None ≡ Some c → ⊥
nothing c e = cc

push_cases : (xs : List RegisterChange) (x c : RegisterChange) (k : ℕ) → slice_get (xs ++ x ∷ []) k ≡ Some c → (slice_get xs k ≡ Some c) ⊎ (x ≡ c)
push_cases [] x c zero e = inr (cc)
push_cases [] x c (suc k) e = absurd (nothing c e)
push_cases (y ∷ xs) x c zero e = inl e
push_cases (y ∷ xs) x c (suc k) e = push_cases xs x c k e

push_last : (xs : List RegisterChange) (x : RegisterChange) → slice_get (xs ++ x ∷ []) (length xs) ≡ Some x
push_last [] x = refl
push_last (y ∷ xs) x = push_last xs x

push_old : (xs : List RegisterChange) (x c : RegisterChange) (k : ℕ) → slice_get xs k ≡ Some c → slice_get (xs ++ x ∷ []) k ≡ Some c
push_old [] x c k e = absurd (nothing c e)
push_old (y ∷ xs) x c zero e = e
push_old (y ∷ xs) x c (suc k) e = push_old xs x c k e

-- the one behind the others, or one of these
push_places : (xs : List RegisterChange) (x c : RegisterChange) (k : ℕ) → slice_get (xs ++ x ∷ []) k ≡ Some c →
    ((k < length xs) × (slice_get xs k ≡ Some c)) ⊎ ((k ≡ length xs) × (x ≡ c))
push_places [] x c zero e = inr (refl, cc)
push_places [] x c (suc k) e = absurd (nothing c e)
push_places (y ∷ xs) x c zero e = inl (omega arith, e)
push_places (y ∷ xs) x c (suc k) e = elim (push_places xs x c k e) [
  | inl old ↦ inl (let lt = old.0 in omega (arith, lt), old.1)
  | inr new ↦ inr (ap (λ (n : ℕ). suc n) new.0, new.1)
]

-- what is told of the registers below n
pub record AreTold (old new : Registers) (changes : List RegisterChange) (n : ℕ) : Type 0 where
  pub told : (k : ℕ) (c : RegisterChange) → slice_get changes k ≡ Some c → (new c.register ≡ value_of c.content) × (old c.register ≢ new c.register)
  pub others : (r : ℕ) → r < n → ((k : ℕ) (c : RegisterChange) → slice_get changes k ≡ Some c → c.register ≢ r) → new r ≡ old r
  pub below : (k : ℕ) (c : RegisterChange) → slice_get changes k ≡ Some c → c.register < n
  pub rising : (j k : ℕ) (c d : RegisterChange) → j < k → slice_get changes j ≡ Some c → slice_get changes k ≡ Some d → c.register < d.register

pub told_more : (old new : Registers) (changes : List RegisterChange) (n : ℕ) (x : RegisterChange) → x.register ≡ n → new n ≡ value_of x.content → old n ≢ new n →
    AreTold old new changes n → AreTold old new (changes ++ x ∷ []) (n + 1)
told_more old new changes n x at holds other t = record {
  told = λ k c e. elim (push_cases changes x c k e) [
    | inl before ↦ t.told k c before
    | inr same ↦ (
      ap new (sym (ap (λ (d : RegisterChange). d.register) same) ∙ at) ∙ (holds ∙ ap (λ (d : RegisterChange). value_of d.content) same),
      λ equal. other (ap old (sym at ∙ ap (λ (d : RegisterChange). d.register) same) ∙ (equal ∙ ap new (sym (ap (λ (d : RegisterChange). d.register) same) ∙ at))),
    )
  ];
  others = λ r lt none. elim (cases_lt r n) [
    | inl low ↦ t.others r low (λ k c e. none k c (push_old changes x c k e))
    | inr high ↦ absurd (none (length changes) x (push_last changes x) (at ∙ (let e : n ≡ r = omega (arith, lt, high) in e)))
  ];
  below = λ k c e. elim (push_cases changes x c k e) [
    | inl before ↦ let lt = t.below k c before in omega (arith, lt)
    | inr same ↦ let is : c.register ≡ n = sym (ap (λ (d : RegisterChange). d.register) same) ∙ at in omega (arith, is)
  ];
  rising = λ j k c d lt one two. elim (push_places changes x c j one) [
    | inl first ↦ elim (push_cases changes x d k two) [
      | inl before ↦ t.rising j k c d lt first.1 before
      | inr same ↦
          let is : d.register ≡ n = sym (ap (λ (e : RegisterChange). e.register) same) ∙ at in
          let low = t.below j c first.1 in
          omega (arith, is, low)
    ]
    | inr last ↦ elim (push_places changes x d k two) [
      | inl before ↦ let a = last.0 in let b = before.0 in absurd (omega (arith, a, b, lt))
      | inr again ↦ let a = last.0 in let b = again.0 in absurd (omega (arith, a, b, lt))
    ]
  ];
}

pub told_same : (old new : Registers) (changes : List RegisterChange) (n : ℕ) → new n ≡ old n → AreTold old new changes n → AreTold old new changes (n + 1)
told_same old new changes n same t = record {
  told = t.told;
  others = λ r lt none. elim (cases_lt r n) [
    | inl low ↦ t.others r low none
    | inr high ↦ subst (λ (k : ℕ). new k ≡ old k) (let e : n ≡ r = omega (arith, lt, high) in e) same
  ];
  below = λ k c e. let lt = t.below k c e in omega (arith, lt);
  rising = t.rising;
}

pub alike : (x y : Content) → value_of x ≡ value_of y → x ≡ y
alike content.Unset content.Unset e = refl
alike content.Unset (content.Num n) e = absurd (cc)
alike content.Unset (content.Stack k) e = absurd (cc)
alike content.Unset (content.Part k) e = absurd (cc)
alike (content.Num m) content.Unset e = absurd (cc)
alike (content.Num m) (content.Num n) e = let same : m ≡ n = cc in ap content.Num same
alike (content.Num m) (content.Stack k) e = absurd (cc)
alike (content.Num m) (content.Part k) e = absurd (cc)
alike (content.Stack j) content.Unset e = absurd (cc)
alike (content.Stack j) (content.Num n) e = absurd (cc)
alike (content.Stack j) (content.Stack k) e = let same : j ≡ k = cc in ap content.Stack same
alike (content.Stack j) (content.Part k) e = absurd (cc)
alike (content.Part j) content.Unset e = absurd (cc)
alike (content.Part j) (content.Num n) e = absurd (cc)
alike (content.Part j) (content.Stack k) e = absurd (cc)
alike (content.Part j) (content.Part k) e = let same : j ≡ k = cc in ap content.Part same

-- past the last register there is none in either
outside : (old new : List Content) (r : ℕ) → length old ≤ r → length new ≤ r → registers_of new r ≡ registers_of old r
outside old new r long longer = ap value_of (get_or_past new r content.Unset longer ∙ sym (get_or_past old r content.Unset long))

pub told_all : (old new : List Content) (changes : List RegisterChange) (n : ℕ) → length old ≡ 11 → length new ≡ 11 → 11 ≤ n → AreTold (registers_of old) (registers_of new) changes n →
    AreChanges (registers_of old) (registers_of new) changes
told_all old new changes n before after all t = record {
  told = t.told;
  others = λ r none. elim (cases_lt r 11) [
    | inl low ↦ let under : r < n = omega (arith, low, all) in t.others r under none
    | inr high ↦ outside old new r (omega (arith, before, high)) (omega (arith, after, high))
  ];
  rising = t.rising;
}
