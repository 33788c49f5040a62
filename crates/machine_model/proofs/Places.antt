-- What stands where in a list, after an element was replaced or added.
use Rattle.std.proofs.Common.{◌≡◌, ◌≢◌, ℕ, zero, suc, ◌<◌, ◌⊎◌, inl, inr, List, [], ◌∷◌, ◌++◌, length, length-set, set, get_or-set_same, slice_get, refl, ◌∙◌, arith, ap, subst, Bool, true, false, Option, Some, nat_eq}
use Rattle.std.proofs.lemmas.Option.{slice_get-get_or}
use Rattle.std.proofs.lemmas.Bool.Decides.{nat_tests}

pub set_same : {X : Type 0} (xs : List X) (i : ℕ) (y : X) → i < length xs → slice_get (set xs i y) i ≡ Some y
set_same xs i y lt =
    slice_get-get_or (set xs i y) i y (omega (arith, length-set xs i y)) ∙ ap Some (get_or-set_same xs i y y lt)

pub set_other : {X : Type 0} (xs : List X) (i k : ℕ) (y : X) → k ≢ i → slice_get (set xs i y) k ≡ slice_get xs k
set_other [] i k y ne = refl
set_other (x ∷ xs) zero zero y ne = absurd (ne refl)
set_other (x ∷ xs) zero (suc k) y ne = refl
set_other (x ∷ xs) (suc i) zero y ne = refl
set_other (x ∷ xs) (suc i) (suc k) y ne = set_other xs i k y (λ e. ne (ap suc e))

by_test : (P : ℕ → Type 0) (n k : ℕ) (b : Bool) → nat_eq k n ≡ b → P n → (k ≢ n → P k) → P k
by_test P n k true e same other = let is : n ≡ k = grind (arith, nat_tests) in subst P is same
by_test P n k false e same other = let ne : k ≢ n = grind (arith, nat_tests) in other ne

-- a fact about each number, from the one at n and those of the others
pub by_number : (P : ℕ → Type 0) (n k : ℕ) → P n → (k ≢ n → P k) → P k
by_number P n k same other = by_test P n k (nat_eq k n) refl same other

pub push_old : {X : Type 0} (xs : List X) (i : ℕ) (y x : X) → slice_get xs i ≡ Some x → slice_get (xs ++ y ∷ []) i ≡ Some x
push_old [] i y x e = cc
push_old (z ∷ zs) zero y x e = e
push_old (z ∷ zs) (suc i) y x e = push_old zs i y x e

pub push_new : {X : Type 0} (xs : List X) (y : X) → slice_get (xs ++ y ∷ []) (length xs) ≡ Some y
push_new [] y = refl
push_new (z ∷ zs) y = push_new zs y

nothing : {X : Type 0} (i : ℕ) (x : X) → let xs : List X = [] in slice_get xs i ≡ Some x → ⊥
nothing i x e = cc

some_same : {X : Type 0} (x y : X) → let here : Option X = Some x in here ≡ Some y → y ≡ x
some_same x y e = cc

-- what stands at a place was there, or is the new element at the end
pub pushed : {X : Type 0} (xs : List X) (i : ℕ) (y x : X) → slice_get (xs ++ y ∷ []) i ≡ Some x →
    (slice_get xs i ≡ Some x) ⊎ ((i ≡ length xs) × (x ≡ y))
pushed [] zero y x e = inr (refl, some_same y x e)
pushed [] (suc i) y x e = absurd (nothing i x e)
pushed (z ∷ zs) zero y x e = inl e
pushed (z ∷ zs) (suc i) y x e = elim (pushed zs i y x e) [ inl old ↦ inl old | inr new ↦ inr (ap suc new.0, new.1) ]
