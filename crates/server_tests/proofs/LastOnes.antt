-- What holds of all elements of a list holds of its last one, and of those ahead of it.
use Rattle.std.proofs.Common.{◌≡◌, List, [], ◌∷◌, ◌++◌, zero, suc, arith, subst}
use Rattle.std.specs.Prelude.{All}

last_of : {A : Type 0} (P : A → Type 0) (rest : List A) (x : A) → All P (rest ++ x ∷ []) → P x
last_of P [] x all = all 0 x (omega arith)
last_of P (y ∷ rest) x all = last_of P rest x (λ k d lt. all (suc k) d (omega (arith, lt)))

pub of_last : {A : Type 0} (P : A → Type 0) (xs rest : List A) (x : A) → All P xs → xs ≡ rest ++ x ∷ [] → P x
of_last {A} P xs rest x all is = last_of P rest x (subst (λ (l : List A). All P l) is all)

first_of : {A : Type 0} (P : A → Type 0) (rest : List A) (x : A) → All P (rest ++ x ∷ []) → All P rest
first_of P [] x all k d lt = absurd (omega (arith, lt))
first_of P (y ∷ rest) x all zero d lt = all 0 d (omega arith)
first_of P (y ∷ rest) x all (suc k) d lt = first_of P rest x (λ j e less. all (suc j) e (omega (arith, less))) k d (omega (arith, lt))

pub of_first : {A : Type 0} (P : A → Type 0) (xs rest : List A) (x : A) → All P xs → xs ≡ rest ++ x ∷ [] → All P rest
of_first {A} P xs rest x all is = first_of P rest x (subst (λ (l : List A). All P l) is all)
