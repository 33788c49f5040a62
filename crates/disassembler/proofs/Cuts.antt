-- A text is cut in one way.
use Rattle.std.proofs.Common.{◌≡◌, ◌⊎◌, inl, inr, ℕ, zero, suc, ◌+◌, ◌<◌, ◌≤◌, List, [], ◌∷◌, ◌++◌, length, get_or, take, drop, refl, sym, subst, ◌∙◌, arith}
use Rattle.std.proofs.lemmas.List.{take_more}
use Rattle.disassembler.specs.Cut.{IsFree, StopsAtOnce, IsTwo}

pub free_push : (s o : ℕ) (xs : List ℕ) (c : ℕ) → IsFree s o xs → (c ≡ s → ⊥) → (c ≡ o → ⊥) → IsFree s o (xs ++ c ∷ [])
free_push s o [] c h n m = (n, m, tt)
free_push s o (x ∷ xs) c h n m = (h.0, h.1, free_push s o xs c h.2 n m)

pub free_more : (s o : ℕ) (xs : List ℕ) (i : ℕ) → i < length xs → IsFree s o (take i xs) → (get_or xs i 0 ≡ s → ⊥) → (get_or xs i 0 ≡ o → ⊥) → IsFree s o (take (i + 1) xs)
free_more s o xs i lt h n m = subst (IsFree s o) (sym (take_more xs i 0 lt)) (free_push s o (take i xs) (get_or xs i 0) h n m)

pub begins_at : (s o : ℕ) (xs : List ℕ) (i : ℕ) → i < length xs → (get_or xs i 0 ≡ s) ⊎ (get_or xs i 0 ≡ o) → StopsAtOnce s o (drop i xs)
begins_at s o [] i lt h = absurd (omega arith)
begins_at s o (x ∷ xs) zero lt h = h
begins_at s o (x ∷ xs) (suc i) lt h = begins_at s o xs i (omega arith) h

pub cut_once : (s o : ℕ) (x p y q : List ℕ) → IsFree s o x → IsFree s o y → StopsAtOnce s o p → StopsAtOnce s o q → x ++ p ≡ y ++ q → (x ≡ y) × (p ≡ q)
cut_once s o [] p [] q a b f g e = (refl, e)
cut_once s o [] [] (d ∷ y) q a b f g e = absurd cc
cut_once s o [] (c ∷ p) (d ∷ y) q a b (inl f) g e = let same : d ≡ s = cc in absurd (b.0 same)
cut_once s o [] (c ∷ p) (d ∷ y) q a b (inr f) g e = let same : d ≡ o = cc in absurd (b.1 same)
cut_once s o (c ∷ x) p [] [] a b f g e = absurd cc
cut_once s o (c ∷ x) p [] (d ∷ q) a b f (inl g) e = let same : c ≡ s = cc in absurd (a.0 same)
cut_once s o (c ∷ x) p [] (d ∷ q) a b f (inr g) e = let same : c ≡ o = cc in absurd (a.1 same)
cut_once s o (c ∷ x) p (d ∷ y) q a b f g e =
    let head : c ≡ d = cc in
    let tail : x ++ p ≡ y ++ q = cc in
    let rest = cut_once s o x p y q a.2 b.2 f g tail in
    let front : x ≡ y = rest.0 in
    (cc, rest.1)

-- the first comma
pub two_once : (ts p q p' q' : List ℕ) → IsTwo ts p q → IsTwo ts p' q' → (p ≡ p') × (q ≡ q')
two_once ts p q p' q' a b =
    let r = cut_once 44 44 p (44 ∷ 32 ∷ q) p' (44 ∷ 32 ∷ q') a.0 b.0 (inl refl) (inl refl) (sym a.1 ∙ b.1) in
    (r.0, let e = r.1 in cc)

pub two_back : (ts x p front back : List ℕ) → IsFree 44 44 x → StopsAtOnce 44 44 p → ts ≡ x ++ p → IsTwo ts front back → p ≡ 44 ∷ 32 ∷ back
two_back ts x p front back h g e t = (cut_once 44 44 x p front (44 ∷ 32 ∷ back) h t.0 g (inl refl) (sym e ∙ t.1)).1
