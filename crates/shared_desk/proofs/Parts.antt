-- Parts of a history, and beginnings of lists.
use Rattle.std.proofs.Common.{◌≡◌, ◌≢◌, ◌==◌, ℕ, zero, suc, Bool, true, false, List, [], ◌∷◌, ◌++◌, length, refl, sym, ap, ◌∙◌, ◌⊎◌, inl, inr, arith, append_assoc}
use Rattle.std.proofs.lemmas.Bool.Decides.{nat_tests}
use mathlib.Core.Option.{some, some-ne-none, some-injective}
use mathlib.Core.List.{IsPrefix}
use lib.ListN.{get_elem?}
use Rattle.shared_desk.specs.Histories.{HistoryEntry}
use Rattle.shared_desk.specs.declared.seats.DeskView.{DeskView}
use Rattle.shared_desk.specs.Histories.{put_if, part_of}

pub prefix_self : {A : Type 0} (xs : List A) → IsPrefix xs xs
prefix_self [] = ([], refl)
prefix_self (x ∷ xs) = (let r = prefix_self xs in r.0, ap (λ ys. x ∷ ys) (prefix_self xs).1)

pub prefix_trans : {A : Type 0} (xs ys zs : List A) → IsPrefix xs ys → IsPrefix ys zs → IsPrefix xs zs
prefix_trans xs ys zs p q = (p.0 ++ q.0, sym (append_assoc xs p.0 q.0) ∙ (ap (λ w. w ++ q.0) p.1 ∙ q.1))

-- a list longer by something begins with it
pub prefix_more : {A : Type 0} (xs ys zs : List A) → IsPrefix xs ys → IsPrefix xs (ys ++ zs)
prefix_more xs ys zs p = (p.0 ++ zs, sym (append_assoc xs p.0 zs) ∙ ap (λ w. w ++ zs) p.1)

put_front : (b : Bool) (x : HistoryEntry) (more less rest : List HistoryEntry) → more ≡ less ++ rest → put_if b x more ≡ put_if b x less ++ rest
put_front true x more less rest is = ap (λ l. x ∷ l) is
put_front false x more less rest is = is

put_same : (b : Bool) (x : HistoryEntry) (more less : List HistoryEntry) → more ≡ less → put_if b x more ≡ put_if b x less
put_same b x more less is = ap (put_if b x) is

-- one's own answer is one more
pub part_own : (n : ℕ) (history : List HistoryEntry) (e : HistoryEntry) → e.connection ≡ n → part_of n (history ++ e ∷ []) ≡ part_of n history ++ e ∷ []
part_own n [] e is =
    let t : (e.connection == n) ≡ true = grind (arith, nat_tests) in ap (λ b. put_if b e []) t
part_own n (x ∷ xs) e is = put_front (x.connection == n) x _ _ (e ∷ []) (part_own n xs e is)

-- another's is none
pub part_other : (n : ℕ) (history : List HistoryEntry) (e : HistoryEntry) → e.connection ≢ n → part_of n (history ++ e ∷ []) ≡ part_of n history
part_other n [] e differs =
    let t : (e.connection == n) ≡ false = grind (arith, nat_tests) in ap (λ b. put_if b e []) t
part_other n (x ∷ xs) e differs = put_same (x.connection == n) x _ _ (part_other n xs e differs)

-- what stands in a list that is longer by one
pub at_end : (l : List DeskView) (a b : DeskView) (j : ℕ) → get_elem? (l ++ a ∷ []) j ≡ some b → (get_elem? l j ≡ some b) ⊎ ((j ≡ length l) × (a ≡ b))
at_end [] a b zero e = inr (refl, some-injective a b e)
at_end [] a b (suc j) e = absurd (some-ne-none b (sym e))
at_end (x ∷ xs) a b zero e = inl e
at_end (x ∷ xs) a b (suc j) e = later (at_end xs a b j e)
  where
    later : (get_elem? xs j ≡ some b) ⊎ ((j ≡ length xs) × (a ≡ b)) → (get_elem? xs j ≡ some b) ⊎ ((suc j ≡ suc (length xs)) × (a ≡ b))
    later (inl was) = inl was
    later (inr t) = inr (ap suc t.0, t.1)
