-- The lines of instructions have no fault, and are of one program.
use Rattle.std.proofs.Common.{◌≡◌, ◌≢◌, ◌⊎◌, inl, inr, ℕ, ℤ, pos, suc, ◌<◌, ◌≤◌, ◌^◌, List, [], ◌∷◌, ◌++◌, length, get_or, map, refl, ap, sym, subst, ◌∙◌, arith}
use lib.IntN.{negsuc}
use Rattle.std.specs.Prelude.{FitsSigned}
use Rattle.std.specs.Int.{w16, w32}
use Rattle.std.specs.Fmt.{decimal, signed_decimal}
use Rattle.std.specs.List.{AllByRecursion}
use Rattle.std.proofs.lemmas.Fmt.{first_decimal}
use Rattle.std.proofs.lemmas.List.{map-append}
use Rattle.insn_codec.specs.declared.insn.Operand.{Operand}
use Rattle.insn_codec.specs.declared.insn.Operand.TheVariants as operand
use Rattle.insn_codec.specs.declared.insn.Insn.{Insn}
use Rattle.insn_codec.specs.declared.insn.Insn.TheVariants.{Alu, Mov, Neg, MovSx, End, LoadWide, Load, Store, StoreRegister, Jump, Jump32, JumpIf, Call, Exit}
use Rattle.insn_codec.specs.Spelling.{IsInsn, IsOperand, IsWhole, spellings}
use Rattle.disassembler.specs.Line.{register_text, signed_text, operand_text, memory_text, two_operands, operands_text, tail_text, line_text}
use Rattle.disassembler.specs.Words.{word_text, word_of_insn}
use Rattle.disassembler.specs.declared.word.Word.{Word}
use Rattle.disassembler.proofs.Texts.{widened}
use Rattle.disassembler.proofs.Words.{word_once, word_free}
use Rattle.disassembler.proofs.OneLine.{cut_line, one_line, tail_begins}
use Rattle.assembler.specs.declared.fault.TextFault.{TextFault}
use Rattle.assembler.specs.declared.fault.TextFault.TheVariants as fault
use Rattle.assembler.specs.Forms.{IsPrefixed, IsNegative, IsNumberForm, IsOffsetForm, IsMemoryForm, IsTailOf, HasForm, IsUnknownWord, IsBadOperand, IsOutOfRange, operands_of}
use Rattle.assembler.specs.Source.{texts_of, AreLinesOf, IsAtLine, IsTextRefusal}
use Rattle.assembler.proofs.Values.{decimal_is}
use Rattle.assembler.proofs.FormLemmas.{before, behind}

register_form : (n : ℕ) → n ≤ 10 → IsPrefixed 114 (register_text n)
register_form n h = (decimal n, refl, (n, decimal_is n (omega arith)))

not_zero : (n : ℕ) → suc n < 2 ^ 64 → 45 ∷ decimal (suc n) ≢ 45 ∷ 48 ∷ []
not_zero n lt e =
    let f = first_decimal (suc n) (omega arith) lt in
    let same : get_or (decimal (suc n)) 0 0 ≡ 48 = ap (λ (l : List ℕ). get_or l 1 0) e in
    absurd (omega arith)

negative_form : (n : ℕ) → suc n < 2 ^ 64 → IsNegative (45 ∷ decimal (suc n))
negative_form n lt = ((decimal (suc n), refl, (suc n, decimal_is (suc n) lt)), not_zero n lt)

number_form : (z : ℤ) → FitsSigned w32 z → IsNumberForm (signed_decimal z)
number_form (pos n) h = let m = h.sfits in inl (n, decimal_is n (omega arith))
number_form (negsuc n) h = let m = h.sfits in inr (negative_form n (omega arith))

offset_form : (z : ℤ) → FitsSigned w32 z → IsOffsetForm (signed_text z)
offset_form (pos n) h = let m = h.sfits in inl (decimal n, refl, (n, decimal_is n (omega arith)))
offset_form (negsuc n) h = let m = h.sfits in inr (negative_form n (omega arith))

source_form : (o : Operand) → IsOperand o → IsPrefixed 114 (operand_text o) ⊎ IsNumberForm (operand_text o)
source_form (operand.Imm z) h = inr (number_form z h)
source_form (operand.Reg n) h = inl (register_form n h)

memory_form : (base : ℕ) (offset : ℤ) → base ≤ 10 → FitsSigned w16 offset → IsMemoryForm (memory_text base offset)
memory_form base offset b o = (register_text base, signed_text offset, refl, register_form base b, offset_form offset (widened offset o))

has_form : (insn : Insn) → IsInsn insn → IsTailOf (operands_of (word_of_insn insn)) (tail_text insn)
has_form (Alu w op dst src) h = (operands_text (Alu w op dst src), refl, (register_text dst, operand_text src, refl, register_form dst h.0, source_form src h.1))
has_form (Mov w dst src) h = (operands_text (Mov w dst src), refl, (register_text dst, operand_text src, refl, register_form dst h.0, source_form src h.1))
has_form (MovSx x dst src) h = (operands_text (MovSx x dst src), refl, (register_text dst, register_text src, refl, register_form dst h.0, register_form src h.1))
has_form (Neg w dst) h = (register_text dst, refl, register_form dst h)
has_form (End o size dst) h = (register_text dst, refl, register_form dst h)
has_form (LoadWide dst value) h = (operands_text (LoadWide dst value), refl, (register_text dst, decimal value, refl, register_form dst h.0, inl (value, decimal_is value h.1)))
has_form (Load kind dst base offset) h = (operands_text (Load kind dst base offset), refl, (register_text dst, memory_text base offset, refl, register_form dst h.0, memory_form base offset h.1 h.2))
has_form (Store size base offset imm) h = (operands_text (Store size base offset imm), refl, (memory_text base offset, signed_decimal imm, refl, memory_form base offset h.0 h.1, number_form imm h.2))
has_form (StoreRegister size base offset src) h = (operands_text (StoreRegister size base offset src), refl, (memory_text base offset, register_text src, refl, memory_form base offset h.0 h.1, register_form src h.2))
has_form (Jump offset) h = (signed_text offset, refl, offset_form offset (widened offset h))
has_form (Jump32 offset) h = (signed_text offset, refl, offset_form offset h)
has_form (JumpIf w c dst src offset) h = (operands_text (JumpIf w c dst src offset), refl, (register_text dst, two_operands (operand_text src) (signed_text offset), refl, register_form dst h.0, (operand_text src, signed_text offset, refl, source_form src h.1, offset_form offset (widened offset h.2))))
has_form (Call helper) h = (decimal helper, refl, inl (helper, decimal_is helper (omega arith)))
has_form Exit h = refl

pub known : (insn : Insn) → IsUnknownWord (line_text insn) → ⊥
known insn h = h (word_of_insn insn) (tail_text insn, refl, before (tail_text insn) (tail_begins insn))

pub formed : (insn : Insn) → IsInsn insn → IsBadOperand (line_text insn) → ⊥
formed insn f h =
    let w = h.0 in
    let b = h.1 in
    let r = cut_line (line_text insn) (word_text w) b.0 b.1 (word_free w) (behind b.0 b.2) insn refl in
    h.2 (subst (λ (x : Word). HasForm x (line_text insn)) (sym (word_once w (word_of_insn insn) r.0)) (tail_text insn, refl, has_form insn f))

pub in_range : (insn : Insn) → IsInsn insn → IsOutOfRange (line_text insn) → ⊥
in_range insn f h = h.2 insn f refl

-- ---- lists of lines

pub firsts : (x y : List ℕ) (xs ys : List (List ℕ)) → x ∷ xs ≡ y ∷ ys → (x ≡ y) × (xs ≡ ys)
firsts x y xs ys e = (cc, cc)

middle : (xs : List (List ℕ)) (y : List ℕ) (ys : List (List ℕ)) (insns : List Insn) → AllByRecursion IsInsn insns → xs ++ y ∷ ys ≡ map line_text insns → (insn : Insn) × IsInsn insn × (y ≡ line_text insn)
middle [] y ys [] f e = absurd cc
middle [] y ys (i ∷ insns) f e = (i, f.0, (firsts y (line_text i) ys (map line_text insns) e).0)
middle (x ∷ xs) y ys [] f e = absurd cc
middle (x ∷ xs) y ys (i ∷ insns) f e = middle xs y ys insns f.1 (firsts x (line_text i) (xs ++ y ∷ ys) (map line_text insns) e).1

pub at_line : (n : ℕ) (lines : List (ℕ × List ℕ)) (P : List ℕ → Type 0) (insns : List Insn) → AreLinesOf insns lines → IsAtLine n lines P → (insn : Insn) × IsInsn insn × P (line_text insn)
at_line n lines P insns r a =
    let parts : texts_of a.before ++ a.line ∷ texts_of a.after ≡ map line_text insns = sym (map-append (λ (x : ℕ × List ℕ). x.1) a.before ((n, a.line) ∷ a.after)) ∙ (ap texts_of (sym a.parts) ∙ r.read) in
    let m = middle (texts_of a.before) a.line (texts_of a.after) insns r.fit parts in
    (m.0, m.1, subst P m.2 a.told)

same_insns : (a b : List Insn) → AllByRecursion IsInsn a → AllByRecursion IsInsn b → map line_text a ≡ map line_text b → a ≡ b
same_insns [] [] f g e = refl
same_insns [] (y ∷ b) f g e = absurd cc
same_insns (x ∷ a) [] f g e = absurd cc
same_insns (x ∷ a) (y ∷ b) f g e =
    let r = firsts (line_text x) (line_text y) (map line_text a) (map line_text b) e in
    let first = one_line x y f.0 g.0 r.0 in
    let others = same_insns a b f.1 g.1 r.1 in
    cc

pub one_program : (a b : List Insn) (lines : List (ℕ × List ℕ)) → AreLinesOf a lines → AreLinesOf b lines → a ≡ b
one_program a b lines p q = same_insns a b p.fit q.fit (sym p.read ∙ q.read)

none_left : (insns : List Insn) → IsWhole (spellings insns) → map line_text insns ≡ [] → ⊥
none_left [] w e = let k = w.some in absurd (omega arith)
none_left (i ∷ insns) w e = absurd cc

pub nothing_refused : (insns : List Insn) (lines : List (ℕ × List ℕ)) → AreLinesOf insns lines → IsWhole (spellings insns) → (e : TextFault) → IsTextRefusal e lines → e ≡ fault.NoMemory
nothing_refused insns lines r w (fault.UnknownWord n) h = let a = at_line n lines IsUnknownWord insns r h in absurd (known a.0 a.2)
nothing_refused insns lines r w (fault.BadOperand n) h = let a = at_line n lines IsBadOperand insns r h in absurd (formed a.0 a.1 a.2)
nothing_refused insns lines r w (fault.NumberRange n) h = let a = at_line n lines IsOutOfRange insns r h in absurd (in_range a.0 a.1 a.2)
nothing_refused insns lines r w fault.Empty h = absurd (none_left insns w (sym r.read ∙ ap texts_of h))
nothing_refused insns lines r w fault.TooLong h =
    let same = one_program insns h.0 lines r h.1 in
    let long = h.2 in
    let short = w.short in
    absurd (omega (arith, ap (λ (l : List Insn). length (spellings l)) same))
nothing_refused insns lines r w fault.NoMemory h = refl
