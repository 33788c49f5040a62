-- An instruction's line is its word, which has no space, and what follows.
use Rattle.std.proofs.Common.{◌≡◌, ◌≢◌, inl, inr, ℕ, List, [], ◌∷◌, ◌++◌, length, drop, Option, Some, None, refl, ap, sym, ◌∙◌}
use Rattle.std.specs.Prelude.{IfSome, IfNone, false, ◌==◌}
use Rattle.insn_codec.specs.Spelling.{IsInsn}
use Rattle.insn_codec.specs.declared.insn.Insn.{Insn}
use Rattle.insn_codec.specs.declared.insn.Insn.TheVariants.{Exit}
use Rattle.disassembler.specs.Line.{line_text, tail_text, operands_text}
use Rattle.disassembler.specs.Words.{word_text, word_of_insn}
use Rattle.disassembler.specs.declared.word.Word.{Word}
use Rattle.disassembler.specs.declared.word.Word.TheVariants as word
use Rattle.assembler.specs.Reading.{ReadsInsn}
use Rattle.disassembler.specs.Cut.{IsFree, StopsAtOnce}
use Rattle.disassembler.proofs.Words.{word_once}
use Rattle.disassembler.proofs.OneLine.{cut_line}

-- a line without an instruction's word, or whose rest no instruction of that word has
pub no_line : (line front tail : List ℕ) → line ≡ front ++ tail → IsFree 32 32 front → StopsAtOnce 32 32 tail → ((w : Word) → word_text w ≢ front) → (insn : Insn) → line ≢ line_text insn
no_line line front tail whole a b none insn e = none (word_of_insn insn) (sym (cut_line line front tail whole a b insn e).0)

pub word_and_tail : (line front tail : List ℕ) (w : Word) → line ≡ front ++ tail → IsFree 32 32 front → StopsAtOnce 32 32 tail → word_text w ≡ front → (insn : Insn) → line ≡ line_text insn → (word_of_insn insn ≡ w) × (tail ≡ tail_text insn)
word_and_tail line front tail w whole a b e insn f =
    let r = cut_line line front tail whole a b insn f in
    (word_once (word_of_insn insn) w (sym (e ∙ r.0)), r.1)

tail_of : (insn : Insn) → (word_of_insn insn ≡ word.Exit → ⊥) → tail_text insn ≡ 32 ∷ operands_text insn
tail_of Exit n = absurd (n refl)
tail_of insn n = refl

pub tail_is : (tail ops : List ℕ) → StopsAtOnce 32 32 tail → false ≡ (length tail == 0) → ops ≡ drop 1 tail → tail ≡ 32 ∷ ops
tail_is [] ops b lt e = absurd cc
tail_is (c ∷ cs) ops (inl b) lt e = let same : ops ≡ cs = e in cc
tail_is (c ∷ cs) ops (inr b) lt e = let same : ops ≡ cs = e in cc

module _ (line front tail ops : List ℕ) (w : Word) (whole : line ≡ front ++ tail) (a : IsFree 32 32 front) (b : StopsAtOnce 32 32 tail)
    (is : word_text w ≡ front) (apart : w ≡ word.Exit → ⊥) (behind : tail ≡ 32 ∷ ops) where
  pub line_found : (r : Option Insn) → ReadsInsn w ops r → IfSome r (λ insn. (line ≡ line_text insn) × IsInsn insn)
  line_found None h = tt
  line_found (Some insn) h =
      let n : word_of_insn insn ≡ word.Exit → ⊥ = λ e. apart (sym h.0 ∙ e) in
      let word_same : front ≡ word_text (word_of_insn insn) = sym is ∙ ap word_text (sym h.0) in
      let tail_same : tail ≡ tail_text insn = behind ∙ (ap (λ (l : List ℕ). 32 ∷ l) h.1 ∙ sym (tail_of insn n)) in
      (whole ∙ (ap (λ (l : List ℕ). l ++ tail) word_same ∙ (ap (λ (l : List ℕ). word_text (word_of_insn insn) ++ l) tail_same)), h.2)

  pub line_none : (r : Option Insn) → ReadsInsn w ops r → IfNone r ((insn : Insn) → IsInsn insn → line ≢ line_text insn)
  line_none (Some insn) h = tt
  line_none None h = λ insn f e.
      let r = word_and_tail line front tail w whole a b is insn e in
      let n : word_of_insn insn ≡ word.Exit → ⊥ = λ x. apart (sym r.0 ∙ x) in
      let both : 32 ∷ ops ≡ 32 ∷ operands_text insn = sym behind ∙ (r.1 ∙ tail_of insn n) in
      h insn f r.0 cc
