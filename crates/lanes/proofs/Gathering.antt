-- An owner takes in passes, the last one first.
use Rattle.std.proofs.Common.{◌≡◌, List, [], ◌∷◌, ◌++◌, All, map, zero, suc, ap, sym, ◌∙◌, subst, append_assoc, arith}
use Rattle.std.proofs.lemmas.List.{map-append}

front_of : {A : Type 0} (P : A → Type 0) (rest : List A) (x : A) → All P (rest ++ x ∷ []) → All P rest
front_of P [] x all k d lt = absurd (omega arith)
front_of P (y ∷ rest) x all zero d lt = all 0 d (omega arith)
front_of P (y ∷ rest) x all (suc k) d lt = front_of P rest x (λ j e less. all (suc j) e (omega (arith, less))) k d (omega (arith, lt))

-- what holds of all holds of those that are left
pub all_left : {A : Type 0} (P : A → Type 0) (xs rest : List A) (x : A) → All P xs → xs ≡ rest ++ x ∷ [] → All P rest
all_left {A} P xs rest x all is = front_of P rest x (subst (λ (l : List A). All P l) is all)

-- what was gathered and what is still to be
pub one_gathered : {A B : Type 0} (f : A → B) (xs rest : List A) (x : A) (back : List B) → xs ≡ rest ++ x ∷ [] → map f rest ++ f x ∷ back ≡ map f xs ++ back
one_gathered {A} {B} f xs rest x back is =
    sym (append_assoc (map f rest) (f x ∷ []) back)
    ∙ ap (λ (l : List B). l ++ back) (sym (map-append f rest (x ∷ [])) ∙ ap (λ (l : List A). map f l) (sym is))
