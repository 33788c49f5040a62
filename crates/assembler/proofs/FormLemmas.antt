-- Operands of a form are cut in one way.
use Rattle.std.proofs.Common.{◌≡◌, ◌≢◌, inl, inr, ℕ, ◌<◌, false, List, [], ◌∷◌, ◌++◌, drop, refl, ap, sym, subst, ◌∙◌, arith}
use Rattle.std.specs.Prelude.{IsTrue}
use Rattle.std.specs.Char.{digit_value}
use Rattle.disassembler.specs.Cut.{IsFree, StopsAtOnce, IsTwo}
use Rattle.disassembler.specs.Words.{word_text}
use Rattle.disassembler.specs.declared.word.Word.{Word}
use Rattle.disassembler.proofs.Cuts.{cut_once, two_once}
use Rattle.disassembler.proofs.Texts.{free_digits, free_append, apart, over, push_once}
use Rattle.disassembler.proofs.Words.{word_free}
use Rattle.assembler.specs.declared.form.Form.{Form}
use Rattle.assembler.specs.declared.form.Form.TheVariants as form
use Rattle.assembler.specs.declared.form.Operands.{Operands}
use Rattle.assembler.specs.declared.form.Operands.TheVariants.{Zero, One, Two, Three}
use Rattle.assembler.specs.Forms.{IsNumeral, IsPrefixed, IsNegative, IsNumberForm, IsOffsetForm, IsMemoryForm, IsOfForm, IsPair, IsTailOf, IsBehindWord, IsUnknownWord, IsBadOperand, operands_of}
use Rattle.assembler.proofs.Pairs.{assoc}

pub never : {A : Type 0} → IsTrue false → A
never h = absurd cc

-- ---- texts without some bytes

free_numeral : (s o : ℕ) → (digit_value s < 10 → ⊥) → (digit_value o < 10 → ⊥) → (ts : List ℕ) → IsNumeral ts → IsFree s o ts
free_numeral s o a b ts h = free_digits s o a b ts h.1.digits

free_marked : (s o c : ℕ) → (c ≡ s → ⊥) → (c ≡ o → ⊥) → (digit_value s < 10 → ⊥) → (digit_value o < 10 → ⊥) → (ts : List ℕ) → IsPrefixed c ts → IsFree s o ts
free_marked s o c n m a b ts h = subst (IsFree s o) (sym h.1) (n, m, free_numeral s o a b h.0 h.2)

no_comma : digit_value 44 < 10 → ⊥
no_comma h = absurd (omega arith)

free_register : (ts : List ℕ) → IsPrefixed 114 ts → IsFree 44 44 ts
free_register ts h = free_marked 44 44 114 (over 114 44 (omega arith)) (over 114 44 (omega arith)) no_comma no_comma ts h

free_negative : (ts : List ℕ) → IsNegative ts → IsFree 44 44 ts
free_negative ts h = free_marked 44 44 45 (over 45 44 (omega arith)) (over 45 44 (omega arith)) no_comma no_comma ts h.0

free_number : (ts : List ℕ) → IsNumberForm ts → IsFree 44 44 ts
free_number ts (inl h) = free_numeral 44 44 no_comma no_comma ts h
free_number ts (inr h) = free_negative ts h

free_offset : (ts : List ℕ) → IsOffsetForm ts → IsFree 44 44 ts
free_offset ts (inl h) = free_marked 44 44 43 (apart 43 44 (omega arith)) (apart 43 44 (omega arith)) no_comma no_comma ts h
free_offset ts (inr h) = free_negative ts h

free_memory : (ts : List ℕ) → IsMemoryForm ts → IsFree 44 44 ts
free_memory ts h = subst (IsFree 44 44) (sym h.2) (
  over 91 44 (omega arith),
  over 91 44 (omega arith),
  free_append 44 44 h.0 (h.1 ++ 93 ∷ []) (free_register h.0 h.3)
      (free_append 44 44 h.1 (93 ∷ []) (free_offset h.1 h.4) (over 93 44 (omega arith), over 93 44 (omega arith), tt)),
)

pub free_form : (f : Form) (ts : List ℕ) → IsOfForm f ts → IsFree 44 44 ts
free_form form.Register ts h = free_register ts h
free_form form.Number ts h = free_number ts h
free_form form.Offset ts h = free_offset ts h
free_form form.Source ts (inl h) = free_register ts h
free_form form.Source ts (inr h) = free_number ts h
free_form form.Memory ts h = free_memory ts h

-- ---- pairs

module _ (f : Form) (Q : List ℕ → Type 0) (ts : List ℕ) where
  pub pair_in : (p q : List ℕ) → IsTwo ts p q → IsPair (IsOfForm f) Q ts → IsOfForm f p × Q q
  pair_in p q two h =
      let r = two_once ts p q h.0 h.1 two (free_form f h.0 h.3, h.2) in
      (subst (IsOfForm f) (sym r.0) h.3, subst Q (sym r.1) h.4)

  pub pair_made : (p q : List ℕ) → IsTwo ts p q → IsOfForm f p → Q q → IsPair (IsOfForm f) Q ts
  pair_made p q two a b = (p, q, two.1, a, b)

  pub pair_none : ((p q : List ℕ) → IsTwo ts p q → ⊥) → IsPair (IsOfForm f) Q ts → ⊥
  pair_none none h = none h.0 h.1 (free_form f h.0 h.3, h.2)

-- ---- places in memory

signless : (ts : List ℕ) → IsPrefixed 114 ts → IsFree 43 45 ts
signless ts h = free_marked 43 45 114 (over 114 43 (omega arith)) (over 114 45 (omega arith)) (λ k. absurd (omega arith)) (λ k. absurd (omega arith)) ts h

offset_begins : (ts : List ℕ) → IsOffsetForm ts → StopsAtOnce 43 45 ts
offset_begins ts (inl h) = subst (StopsAtOnce 43 45) (sym h.1) (inl refl)
offset_begins ts (inr h) = subst (StopsAtOnce 43 45) (sym h.0.1) (inr refl)

module _ (ts inner p q : List ℕ) (whole : ts ≡ 91 ∷ (inner ++ 93 ∷ [])) (parts : inner ≡ p ++ q) (front : IsFree 43 45 p) (back : StopsAtOnce 43 45 q) where
  pub memory_in : IsMemoryForm ts → IsPrefixed 114 p × IsOffsetForm q
  memory_in h =
      let both : 91 ∷ (inner ++ 93 ∷ []) ≡ 91 ∷ (h.0 ++ (h.1 ++ 93 ∷ [])) = sym whole ∙ h.2 in
      let same = push_once inner (h.0 ++ h.1) 93 93 (ap (drop 1) both ∙ assoc h.0 h.1 (93 ∷ [])) in
      let r = cut_once 43 45 p q h.0 h.1 front (signless h.0 h.3) back (offset_begins h.1 h.4) (sym parts ∙ same) in
      (subst (IsPrefixed 114) (sym r.0) h.3, subst IsOffsetForm (sym r.1) h.4)

  pub memory_made : IsPrefixed 114 p → IsOffsetForm q → IsMemoryForm ts
  memory_made a b = (p, q, whole ∙ ap (λ (l : List ℕ). 91 ∷ l) (ap (λ (l : List ℕ). l ++ 93 ∷ []) parts ∙ sym (assoc p q (93 ∷ []))), a, b)

-- ---- words

pub behind : (tail : List ℕ) → IsBehindWord tail → StopsAtOnce 32 32 tail
behind [] h = tt
behind (c ∷ cs) h = inl h

pub before : (tail : List ℕ) → StopsAtOnce 32 32 tail → IsBehindWord tail
before [] h = tt
before (c ∷ cs) (inl h) = h
before (c ∷ cs) (inr h) = h

pub tail_begins : (o : Operands) (tail : List ℕ) → IsTailOf o tail → StopsAtOnce 32 32 tail
tail_begins Zero tail h = subst (StopsAtOnce 32 32) (sym h) tt
tail_begins (One f) tail h = subst (StopsAtOnce 32 32) (sym h.1) (inl refl)
tail_begins (Two f g) tail h = subst (StopsAtOnce 32 32) (sym h.1) (inl refl)
tail_begins (Three f g k) tail h = subst (StopsAtOnce 32 32) (sym h.1) (inl refl)

module _ (line front tail : List ℕ) (whole : line ≡ front ++ tail) (a : IsFree 32 32 front) (b : StopsAtOnce 32 32 tail) where
  pub unknown : ((w : Word) → word_text w ≢ front) → IsUnknownWord line
  unknown none w h = none w (sym (cut_once 32 32 front tail (word_text w) h.0 a (word_free w) b (behind h.0 h.2) (sym whole ∙ h.1)).0)

  pub bad_operand : (w : Word) (o : Operands) → word_text w ≡ front → o ≡ operands_of w → (IsTailOf o tail → ⊥) → IsBadOperand line
  bad_operand w o is same none = (
    w,
    (tail, whole ∙ ap (λ (l : List ℕ). l ++ tail) (sym is), before tail b),
    λ h.
        let r = cut_once 32 32 front tail (word_text w) h.0 a (word_free w) b (tail_begins (operands_of w) h.0 h.2) (sym whole ∙ h.1) in
        none (subst (λ (l : List ℕ). IsTailOf o l) (sym r.1) (subst (λ (x : Operands). IsTailOf x h.0) (sym same) h.2)),
  )
