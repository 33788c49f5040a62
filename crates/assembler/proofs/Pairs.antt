-- Operands that are joined.
use Rattle.std.proofs.Common.{◌≡◌, ℕ, ℤ, zero, suc, ◌-◌, ◌≤◌, List, [], ◌∷◌, ◌++◌, length, get_or, take, drop, Option, Some, None, refl, ap, sym, subst, ◌∙◌, arith}
use Rattle.std.specs.Option.{option_zip}
use Rattle.disassembler.specs.Line.{register_text, signed_text}
use Rattle.disassembler.specs.Cut.{IsFree, StopsAtOnce, IsTwo}
use Rattle.assembler.specs.Reading.{Reads, ReadsPair, ReadsRegister, ReadsOffset, ReadsMemory, IsPlace, place_text}
use Rattle.disassembler.proofs.Cuts.{cut_once, two_once}
use Rattle.disassembler.proofs.Texts.{free_memory, signless, signed_first, push_once}

module _ {A B : Type 0} (t : A → List ℕ) (F : A → Type 0) (u : B → List ℕ) (G : B → Type 0) (free : (a : A) → F a → IsFree 44 44 (t a)) (ts : List ℕ) where
  module _ (p q : List ℕ) (two : IsTwo ts p q) where
    pair_reads : (r : Option A) (s : Option B) → Reads t F p r → Reads u G q s → ReadsPair t F u G ts (option_zip r s)
    pair_reads (Some a) (Some b) h k = (two.1 ∙ (ap (λ (x : List ℕ). x ++ (44 ∷ 32 ∷ q)) h.0 ∙ ap (λ (x : List ℕ). t a ++ (44 ∷ 32 ∷ x)) k.0), (h.1, k.1))
    pair_reads (Some a) None h k = λ x f e. k x.1 f.1 (two_once ts p q (t x.0) (u x.1) two (free x.0 f.0, e)).1
    pair_reads None (Some b) h k = λ x f e. h x.0 f.0 (two_once ts p q (t x.0) (u x.1) two (free x.0 f.0, e)).0
    pair_reads None None h k = λ x f e. h x.0 f.0 (two_once ts p q (t x.0) (u x.1) two (free x.0 f.0, e)).0

    pub pair_by : (r : Option A) (s : Option B) (z : Option (A × B)) → z ≡ option_zip r s → Reads t F p r → Reads u G q s → ReadsPair t F u G ts z
    pair_by r s z e h k = subst (λ (x : Option (A × B)). ReadsPair t F u G ts x) (sym e) (pair_reads r s h k)

  pub no_pair : ((p q : List ℕ) → IsTwo ts p q → ⊥) → ReadsPair t F u G ts None
  no_pair h = λ x f e. h (t x.0) (u x.1) (free x.0 f.0, e)

-- ---- texts without a comma

pub free_place : (x : ℕ × ℤ) → IsPlace x → IsFree 44 44 (place_text x)
free_place x h = free_memory x.0 x.1 h.0 h.1

-- ---- places in memory

pub assoc : (xs ys zs : List ℕ) → xs ++ (ys ++ zs) ≡ (xs ++ ys) ++ zs
assoc [] ys zs = refl
assoc (x ∷ xs) ys zs = ap (λ (l : List ℕ). x ∷ l) (assoc xs ys zs)

module _ (ts inner p q : List ℕ) (whole : ts ≡ 91 ∷ (inner ++ 93 ∷ [])) (parts : inner ≡ p ++ q) (front : IsFree 43 45 p) (back : StopsAtOnce 43 45 q) where
  cut_in : (x : ℕ × ℤ) → IsPlace x → ts ≡ place_text x → (p ≡ register_text x.0) × (q ≡ signed_text x.1)
  cut_in x f e =
      let both : 91 ∷ (inner ++ 93 ∷ []) ≡ 91 ∷ (register_text x.0 ++ (signed_text x.1 ++ 93 ∷ [])) = sym whole ∙ e in
      let tails : inner ++ 93 ∷ [] ≡ register_text x.0 ++ (signed_text x.1 ++ 93 ∷ []) = cc in
      let same = push_once inner (register_text x.0 ++ signed_text x.1) 93 93 (tails ∙ assoc (register_text x.0) (signed_text x.1) (93 ∷ [])) in
      cut_once 43 45 p q (register_text x.0) (signed_text x.1) front (signless x.0 f.0) back (signed_first x.1) (sym parts ∙ same)

  place_reads : (r : Option ℕ) (s : Option ℤ) → ReadsRegister p r → ReadsOffset q s → ReadsMemory ts (option_zip r s)
  place_reads (Some a) (Some b) h k = (
    whole ∙ ap (λ (l : List ℕ). 91 ∷ l) (ap (λ (l : List ℕ). l ++ 93 ∷ []) (parts ∙ (ap (λ (l : List ℕ). l ++ q) h.0 ∙ ap (λ (l : List ℕ). register_text a ++ l) k.0)) ∙ sym (assoc (register_text a) (signed_text b) (93 ∷ []))),
    (h.1, k.1),
  )
  place_reads (Some a) None h k = λ x f e. k x.1 f.1 (cut_in x f e).1
  place_reads None (Some b) h k = λ x f e. h x.0 f.0 (cut_in x f e).0
  place_reads None None h k = λ x f e. h x.0 f.0 (cut_in x f e).0

  pub place_by : (r : Option ℕ) (s : Option ℤ) (z : Option (ℕ × ℤ)) → z ≡ option_zip r s → ReadsRegister p r → ReadsOffset q s → ReadsMemory ts z
  place_by r s z e h k = subst (λ (x : Option (ℕ × ℤ)). ReadsMemory ts x) (sym e) (place_reads r s h k)

pub last : (n : ℕ) (xs : List ℕ) (c : ℕ) → length xs ≡ suc n → get_or xs n 0 ≡ c → xs ≡ take n xs ++ c ∷ []
last n [] c l e = absurd (omega arith)
last zero (x ∷ []) c l e = let same : x ≡ c = e in cc
last zero (x ∷ y ∷ xs) c l e = absurd (omega arith)
last (suc n) (x ∷ xs) c l e = ap (λ (l : List ℕ). x ∷ l) (last n xs c (omega arith) e)

pub bracketed : (ts : List ℕ) → 2 ≤ length ts → get_or ts 0 0 ≡ 91 → get_or ts (length ts - 1) 0 ≡ 93 → ts ≡ 91 ∷ (take (length (drop 1 ts) - 1) (drop 1 ts) ++ 93 ∷ [])
bracketed [] l a b = absurd (omega arith)
bracketed (t ∷ ts) l a b =
    let first : t ≡ 91 = a in
    let index : length (t ∷ ts) - 1 ≡ suc (length ts - 1) = omega arith in
    let end : get_or (t ∷ ts) (suc (length ts - 1)) 0 ≡ 93 = subst (λ (i : ℕ). get_or (t ∷ ts) i 0 ≡ 93) index b in
    let rest = last (length ts - 1) ts 93 (omega arith) end in
    ap (λ (x : ℕ). x ∷ ts) first ∙ ap (λ (l : List ℕ). 91 ∷ l) rest
