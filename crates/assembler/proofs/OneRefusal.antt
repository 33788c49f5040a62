-- A source has one refusal at most, but for want of memory.
use Rattle.std.proofs.Common.{◌≡◌, ◌≢◌, ℕ, ◌*◌, ◌<◌, List, [], ◌∷◌, ◌++◌, length, map, refl, ap, sym, subst, ◌∙◌, arith}
use Rattle.std.specs.List.{AllByRecursion}
use Rattle.insn_codec.specs.declared.insn.Insn.{Insn}
use Rattle.insn_codec.specs.Spelling.{IsInsn, spellings}
use Rattle.disassembler.specs.declared.word.Word.{Word}
use Rattle.disassembler.specs.Line.{line_text}
use Rattle.disassembler.specs.Words.{word_text}
use Rattle.disassembler.proofs.Cuts.{cut_once}
use Rattle.disassembler.proofs.Words.{word_once, word_free}
use Rattle.assembler.specs.declared.fault.TextFault.{TextFault}
use Rattle.assembler.specs.declared.fault.TextFault.TheVariants.{UnknownWord, BadOperand, NumberRange, Empty, TooLong, NoMemory}
use Rattle.assembler.specs.Forms.{BeginsWithWord, HasForm, IsUnknownWord, IsBadOperand, IsOutOfRange, operands_of}
use Rattle.assembler.specs.Source.{texts_of, IsAtLine, IsTextRefusal}
use Rattle.assembler.proofs.FormLemmas.{before, behind, tail_begins}
use Rattle.assembler.proofs.NoFault.{known, formed, in_range, at_line, firsts}

-- ---- one line has one fault

begins : (w : Word) (line : List ℕ) → HasForm w line → BeginsWithWord w line
begins w line h = (h.0, h.1, before h.0 (tail_begins (operands_of w) h.0 h.2))

same_word : (v w : Word) (line : List ℕ) → BeginsWithWord v line → BeginsWithWord w line → v ≡ w
same_word v w line g h = word_once v w (cut_once 32 32 (word_text v) g.0 (word_text w) h.0 (word_free v) (word_free w) (behind g.0 g.2) (behind h.0 h.2) (sym g.1 ∙ h.1)).0

unknown_or_bad : (line : List ℕ) → IsUnknownWord line → IsBadOperand line → ⊥
unknown_or_bad line u b = u b.0 b.1

unknown_or_range : (line : List ℕ) → IsUnknownWord line → IsOutOfRange line → ⊥
unknown_or_range line u r = u r.0 (begins r.0 line r.1)

bad_or_range : (line : List ℕ) → IsBadOperand line → IsOutOfRange line → ⊥
bad_or_range line b r = b.2 (subst (λ (x : Word). HasForm x line) (sym (same_word b.0 r.0 line b.1 (begins r.0 line r.1))) r.1)

-- ---- one line is the lowest

-- no instruction's line is such
abbrev IsFault : (List ℕ → Type 0) → Type 0
IsFault P = (insn : Insn) → IsInsn insn → P (line_text insn) → ⊥

unknown_is : IsFault IsUnknownWord
unknown_is insn f h = known insn h

module _ (P Q : List ℕ → Type 0) (p : IsFault P) (q : IsFault Q) (x y : ℕ × List ℕ) (u : P x.1) (v : Q y.1) (after later : List (ℕ × List ℕ)) where
  same_place : (xs ys : List (ℕ × List ℕ)) (a b : List Insn) → AllByRecursion IsInsn a → AllByRecursion IsInsn b
      → texts_of xs ≡ map line_text a → texts_of ys ≡ map line_text b → xs ++ x ∷ after ≡ ys ++ y ∷ later → x ≡ y
  same_place [] [] a b f g r s e = cc
  same_place [] (z ∷ ys) a [] f g r s e = absurd cc
  same_place [] (z ∷ ys) a (j ∷ b) f g r s e =
      let first : x ≡ z = cc in
      let text = (firsts z.1 (line_text j) (texts_of ys) (map line_text b) s).0 in
      absurd (p j g.0 (subst P (ap (λ (l : ℕ × List ℕ). l.1) first ∙ text) u))
  same_place (z ∷ xs) [] [] b f g r s e = absurd cc
  same_place (z ∷ xs) [] (i ∷ a) b f g r s e =
      let first : y ≡ z = cc in
      let text = (firsts z.1 (line_text i) (texts_of xs) (map line_text a) r).0 in
      absurd (q i f.0 (subst Q (ap (λ (l : ℕ × List ℕ). l.1) first ∙ text) v))
  same_place (z ∷ xs) (w ∷ ys) [] b f g r s e = absurd cc
  same_place (z ∷ xs) (w ∷ ys) (i ∷ a) [] f g r s e = absurd cc
  same_place (z ∷ xs) (w ∷ ys) (i ∷ a) (j ∷ b) f g r s e =
      let rest : xs ++ x ∷ after ≡ ys ++ y ∷ later = cc in
      same_place xs ys a b f.1 g.1 (firsts z.1 (line_text i) (texts_of xs) (map line_text a) r).1 (firsts w.1 (line_text j) (texts_of ys) (map line_text b) s).1 rest

module _ (lines : List (ℕ × List ℕ)) (P Q : List ℕ → Type 0) (p : IsFault P) (q : IsFault Q) (m n : ℕ) (h : IsAtLine m lines P) (k : IsAtLine n lines Q) where
  at_one : ◌≡◌ {A = ℕ × List ℕ} (m, h.line) (n, k.line)
  at_one = same_place P Q p q (m, h.line) (n, k.line) h.told k.told h.after k.after h.before k.before h.insns k.insns h.read.fit k.read.fit h.read.read k.read.read (sym h.parts ∙ k.parts)

  number : m ≡ n
  number = ap (λ (x : ℕ × List ℕ). x.0) at_one

  both : ((line : List ℕ) → P line → Q line → ⊥) → ⊥
  both apart = apart k.line (subst P (ap (λ (x : ℕ × List ℕ). x.1) at_one) h.told) k.told

-- ---- no line, or too many

module _ (lines : List (ℕ × List ℕ)) (P : List ℕ → Type 0) (p : IsFault P) (n : ℕ) (h : IsAtLine n lines P) where
  not_empty : lines ≡ [] → ⊥
  not_empty e = some_line h.before (sym h.parts ∙ e)
    where
      some_line : (xs : List (ℕ × List ℕ)) → xs ++ (n, h.line) ∷ h.after ≡ [] → ⊥
      some_line [] e = absurd cc
      some_line (x ∷ xs) e = absurd cc

  not_long : IsTextRefusal TooLong lines → ⊥
  not_long t = let a = at_line n lines P t.0 t.1 h in p a.0 a.1 a.2

none_long : (insns : List Insn) → map line_text insns ≡ [] → 8 * 4096 < length (spellings insns) → ⊥
none_long [] e l = absurd (omega arith)
none_long (i ∷ insns) e l = absurd cc

empty_or_long : (lines : List (ℕ × List ℕ)) → lines ≡ [] → IsTextRefusal TooLong lines → ⊥
empty_or_long lines e t = none_long t.0 (sym t.1.read ∙ ap texts_of e) t.2

pub one_refusal : (lines : List (ℕ × List ℕ)) (e f : TextFault) → IsTextRefusal e lines → IsTextRefusal f lines → e ≢ NoMemory → f ≢ NoMemory → e ≡ f
one_refusal lines (UnknownWord m) (UnknownWord n) h k a b = ap UnknownWord (number lines IsUnknownWord IsUnknownWord unknown_is unknown_is m n h k)
one_refusal lines (UnknownWord m) (BadOperand n) h k a b = absurd (both lines IsUnknownWord IsBadOperand unknown_is formed m n h k unknown_or_bad)
one_refusal lines (UnknownWord m) (NumberRange n) h k a b = absurd (both lines IsUnknownWord IsOutOfRange unknown_is in_range m n h k unknown_or_range)
one_refusal lines (UnknownWord m) Empty h k a b = absurd (not_empty lines IsUnknownWord unknown_is m h k)
one_refusal lines (UnknownWord m) TooLong h k a b = absurd (not_long lines IsUnknownWord unknown_is m h k)
one_refusal lines (BadOperand m) (UnknownWord n) h k a b = absurd (both lines IsUnknownWord IsBadOperand unknown_is formed n m k h unknown_or_bad)
one_refusal lines (BadOperand m) (BadOperand n) h k a b = ap BadOperand (number lines IsBadOperand IsBadOperand formed formed m n h k)
one_refusal lines (BadOperand m) (NumberRange n) h k a b = absurd (both lines IsBadOperand IsOutOfRange formed in_range m n h k bad_or_range)
one_refusal lines (BadOperand m) Empty h k a b = absurd (not_empty lines IsBadOperand formed m h k)
one_refusal lines (BadOperand m) TooLong h k a b = absurd (not_long lines IsBadOperand formed m h k)
one_refusal lines (NumberRange m) (UnknownWord n) h k a b = absurd (both lines IsUnknownWord IsOutOfRange unknown_is in_range n m k h unknown_or_range)
one_refusal lines (NumberRange m) (BadOperand n) h k a b = absurd (both lines IsBadOperand IsOutOfRange formed in_range n m k h bad_or_range)
one_refusal lines (NumberRange m) (NumberRange n) h k a b = ap NumberRange (number lines IsOutOfRange IsOutOfRange in_range in_range m n h k)
one_refusal lines (NumberRange m) Empty h k a b = absurd (not_empty lines IsOutOfRange in_range m h k)
one_refusal lines (NumberRange m) TooLong h k a b = absurd (not_long lines IsOutOfRange in_range m h k)
one_refusal lines Empty (UnknownWord n) h k a b = absurd (not_empty lines IsUnknownWord unknown_is n k h)
one_refusal lines Empty (BadOperand n) h k a b = absurd (not_empty lines IsBadOperand formed n k h)
one_refusal lines Empty (NumberRange n) h k a b = absurd (not_empty lines IsOutOfRange in_range n k h)
one_refusal lines Empty Empty h k a b = refl
one_refusal lines Empty TooLong h k a b = absurd (empty_or_long lines h k)
one_refusal lines TooLong (UnknownWord n) h k a b = absurd (not_long lines IsUnknownWord unknown_is n k h)
one_refusal lines TooLong (BadOperand n) h k a b = absurd (not_long lines IsBadOperand formed n k h)
one_refusal lines TooLong (NumberRange n) h k a b = absurd (not_long lines IsOutOfRange in_range n k h)
one_refusal lines TooLong Empty h k a b = absurd (empty_or_long lines k h)
one_refusal lines TooLong TooLong h k a b = refl
one_refusal lines NoMemory f h k a b = absurd (a refl)
one_refusal lines e NoMemory h k a b = absurd (b refl)
