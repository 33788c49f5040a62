-- The lines that are written are those that are read.
use Rattle.std.proofs.Common.{◌≡◌, ℕ, ℤ, pos, suc, ◌+◌, ◌<◌, ◌≤◌, ◌^◌, Bool, true, false, not, List, [], ◌∷◌, ◌++◌, length, map, reverse, refl, ap, sym, subst, ◌∙◌, append_assoc, arith}
use lib.IntN.{negsuc}
use Rattle.std.specs.Prelude.{FitsSigned}
use Rattle.std.specs.Int.{w16, w32}
use Rattle.std.specs.Char.{digit_value}
use Rattle.std.specs.Str.Parse.{AllDigits}
use Rattle.std.specs.Fmt.{decimal, signed_decimal}
use Rattle.std.specs.List.{AllByRecursion, slice_split}
use Rattle.std.proofs.lemmas.Fmt.{digits_decimal, decimal_nonempty}
use Rattle.std.proofs.lemmas.List.{append-nil, reverse-append, reverse-reverse}
use Rattle.insn_codec.specs.declared.insn.Width.TheVariants.{W32, W64}
use Rattle.insn_codec.specs.declared.insn.AluOp.TheVariants.{Add}
use Rattle.insn_codec.specs.declared.insn.Condition.TheVariants.{Equal}
use Rattle.insn_codec.specs.declared.insn.SignExtension.TheVariants.{From8To32}
use Rattle.insn_codec.specs.declared.insn.ByteOrder.TheVariants.{Little, Big, Swap}
use Rattle.insn_codec.specs.declared.insn.EndSize.TheVariants.{Bits16}
use Rattle.insn_codec.specs.declared.insn.Size.TheVariants as sizes
use Rattle.insn_codec.specs.declared.insn.LoadKind.TheVariants as loads
use Rattle.insn_codec.specs.declared.insn.Operand.{Operand}
use Rattle.insn_codec.specs.declared.insn.Operand.TheVariants as operand
use Rattle.insn_codec.specs.declared.insn.Insn.{Insn}
use Rattle.insn_codec.specs.declared.insn.Insn.TheVariants.{Alu, Mov, Neg, MovSx, End, LoadWide, Load, Store, StoreRegister, Jump, Jump32, JumpIf, Call, Exit}
use Rattle.insn_codec.specs.Spelling.{IsInsn, IsOperand}
use Rattle.disassembler.specs.Cut.{IsFree}
use Rattle.disassembler.specs.Line.{register_text, signed_text, operand_text, memory_text, two_operands, operands_text, tail_text, line_text, lines_text}
use Rattle.disassembler.specs.Words.{word_text, word_of_insn}
use Rattle.disassembler.specs.declared.word.Word.{Word}
use Rattle.disassembler.specs.declared.word.Word.TheVariants as word
use Rattle.disassembler.proofs.Texts.{own, free_digits, free_append, apart, over, widened}
use Rattle.disassembler.proofs.Words.{is_free, free_by}
use Rattle.assembler.specs.Source.{code_part, is_blank, without_blanks, stripped, is_line_feed, numbered, source_lines, texts_of, AreLinesOf}
use Rattle.assembler.proofs.SourceLines.{eqb_not, code_front, split_more, numbered_more}

-- ---- neither a line feed nor a semicolon

abbrev IsClean : List ℕ → Type 0
IsClean ts = IsFree 10 59 ts

left_free : (s o : ℕ) (xs : List ℕ) → IsFree s o xs → IsFree s s xs
left_free s o [] h = tt
left_free s o (x ∷ xs) h = (h.0, h.0, left_free s o xs h.2)

right_free : (s o : ℕ) (xs : List ℕ) → IsFree s o xs → IsFree o o xs
right_free s o [] h = tt
right_free s o (x ∷ xs) h = (h.1, h.1, right_free s o xs h.2)

clean_high : (c : ℕ) (ts : List ℕ) → 59 < c → IsClean ts → IsClean (c ∷ ts)
clean_high c ts lt h = (over c 10 (omega arith), over c 59 lt, h)

clean_low : (c : ℕ) (ts : List ℕ) → 10 < c → c < 59 → IsClean ts → IsClean (c ∷ ts)
clean_low c ts lt gt h = (over c 10 lt, apart c 59 gt, h)

clean_decimal : (n : ℕ) → n < 2 ^ 64 → IsClean (decimal n)
clean_decimal n lt = free_digits 10 59 (λ h. absurd (omega arith)) (λ h. absurd (omega arith)) (decimal n) (digits_decimal own n lt)

clean_register : (n : ℕ) → n ≤ 10 → IsClean (register_text n)
clean_register n h = clean_high 114 (decimal n) (omega arith) (clean_decimal n (omega arith))

clean_number : (z : ℤ) → FitsSigned w32 z → IsClean (signed_decimal z)
clean_number (pos n) h = let m = h.sfits in clean_decimal n (omega arith)
clean_number (negsuc n) h = let m = h.sfits in clean_low 45 (decimal (suc n)) (omega arith) (omega arith) (clean_decimal (suc n) (omega arith))

clean_offset : (z : ℤ) → FitsSigned w32 z → IsClean (signed_text z)
clean_offset (pos n) h = let m = h.sfits in clean_low 43 (decimal n) (omega arith) (omega arith) (clean_decimal n (omega arith))
clean_offset (negsuc n) h = let m = h.sfits in clean_low 45 (decimal (suc n)) (omega arith) (omega arith) (clean_decimal (suc n) (omega arith))

clean_operand : (o : Operand) → IsOperand o → IsClean (operand_text o)
clean_operand (operand.Imm z) h = clean_number z h
clean_operand (operand.Reg n) h = clean_register n h

clean_memory : (base : ℕ) (offset : ℤ) → base ≤ 10 → FitsSigned w16 offset → IsClean (memory_text base offset)
clean_memory base offset b o = clean_high 91 (register_text base ++ (signed_text offset ++ 93 ∷ [])) (omega arith)
    (free_append 10 59 (register_text base) (signed_text offset ++ 93 ∷ []) (clean_register base b)
    (free_append 10 59 (signed_text offset) (93 ∷ []) (clean_offset offset (widened offset o)) (clean_high 93 [] (omega arith) tt)))

clean_joined : (p q : List ℕ) → IsClean p → IsClean q → IsClean (two_operands p q)
clean_joined p q f g = free_append 10 59 p (44 ∷ 32 ∷ q) f (clean_low 44 (32 ∷ q) (omega arith) (omega arith) (clean_low 32 q (omega arith) (omega arith) g))

clean_operands : (insn : Insn) → IsInsn insn → IsClean (operands_text insn)
clean_operands (Alu w op dst src) h = clean_joined (register_text dst) (operand_text src) (clean_register dst h.0) (clean_operand src h.1)
clean_operands (Mov w dst src) h = clean_joined (register_text dst) (operand_text src) (clean_register dst h.0) (clean_operand src h.1)
clean_operands (MovSx x dst src) h = clean_joined (register_text dst) (register_text src) (clean_register dst h.0) (clean_register src h.1)
clean_operands (Neg w dst) h = clean_register dst h
clean_operands (End o size dst) h = clean_register dst h
clean_operands (LoadWide dst value) h = clean_joined (register_text dst) (decimal value) (clean_register dst h.0) (clean_decimal value h.1)
clean_operands (Load kind dst base offset) h = clean_joined (register_text dst) (memory_text base offset) (clean_register dst h.0) (clean_memory base offset h.1 h.2)
clean_operands (Store size base offset imm) h = clean_joined (memory_text base offset) (signed_decimal imm) (clean_memory base offset h.0 h.1) (clean_number imm h.2)
clean_operands (StoreRegister size base offset src) h = clean_joined (memory_text base offset) (register_text src) (clean_memory base offset h.0 h.1) (clean_register src h.2)
clean_operands (Jump offset) h = clean_offset offset (widened offset h)
clean_operands (Jump32 offset) h = clean_offset offset h
clean_operands (JumpIf w c dst src offset) h = clean_joined (register_text dst) (two_operands (operand_text src) (signed_text offset)) (clean_register dst h.0) (clean_joined (operand_text src) (signed_text offset) (clean_operand src h.1) (clean_offset offset (widened offset h.2)))
clean_operands (Call helper) h = clean_decimal helper (omega arith)
clean_operands Exit h = tt

clean_tail : (insn : Insn) → IsClean (operands_text insn) → IsClean (tail_text insn)
clean_tail Exit h = tt
clean_tail insn h = clean_low 32 (operands_text insn) (omega arith) (omega arith) h

word_is_clean : (w : Word) → is_free 10 59 (word_text w) ≡ true
word_is_clean (word.Alu W32 Add) = refl
word_is_clean (word.Alu W32 op) = refl
word_is_clean (word.Alu W64 Add) = refl
word_is_clean (word.Alu W64 op) = refl
word_is_clean (word.Mov W32) = refl
word_is_clean (word.Mov W64) = refl
word_is_clean (word.Neg W32) = refl
word_is_clean (word.Neg W64) = refl
word_is_clean (word.MovSx From8To32) = refl
word_is_clean (word.MovSx extension) = refl
word_is_clean (word.End Little Bits16) = refl
word_is_clean (word.End Little size) = refl
word_is_clean (word.End Big Bits16) = refl
word_is_clean (word.End Big size) = refl
word_is_clean (word.End Swap Bits16) = refl
word_is_clean (word.End Swap size) = refl
word_is_clean word.LoadWide = refl
word_is_clean (word.Load loads.Byte) = refl
word_is_clean (word.Load kind) = refl
word_is_clean (word.Store sizes.Byte) = refl
word_is_clean (word.Store size) = refl
word_is_clean (word.StoreRegister sizes.Byte) = refl
word_is_clean (word.StoreRegister size) = refl
word_is_clean word.Jump = refl
word_is_clean word.Jump32 = refl
word_is_clean (word.JumpIf W32 Equal) = refl
word_is_clean (word.JumpIf W32 condition) = refl
word_is_clean (word.JumpIf W64 Equal) = refl
word_is_clean (word.JumpIf W64 condition) = refl
word_is_clean word.Call = refl
word_is_clean word.Exit = refl

clean_line : (insn : Insn) → IsInsn insn → IsClean (line_text insn)
clean_line insn h = free_append 10 59 (word_text (word_of_insn insn)) (tail_text insn) (free_by 10 59 (word_text (word_of_insn insn)) (word_is_clean (word_of_insn insn))) (clean_tail insn (clean_operands insn h))

-- ---- no blank at either end

abbrev starts : List ℕ → Bool
starts [] = false
starts (c ∷ cs) = not (is_blank c)

starts_append : (xs ys : List ℕ) → starts xs ≡ true → starts (xs ++ ys) ≡ true
starts_append [] ys e = absurd cc
starts_append (x ∷ xs) ys e = e

not_true : (b : Bool) → not b ≡ true → b ≡ false
not_true true e = absurd cc
not_true false e = refl

starts_kept : (ts : List ℕ) → starts ts ≡ true → without_blanks ts ≡ ts
starts_kept [] e = refl
starts_kept (c ∷ cs) e = rw (not_true (is_blank c) e) refl

starts_some : (ts : List ℕ) → starts ts ≡ true → 0 < length ts
starts_some [] e = absurd cc
starts_some (c ∷ cs) e = omega arith

abbrev Ends : List ℕ → Type 0
Ends ts = starts (reverse ts) ≡ true

ends_append : (xs ys : List ℕ) → Ends ys → Ends (xs ++ ys)
ends_append xs ys e = subst (λ (l : List ℕ). starts l ≡ true) (sym (reverse-append xs ys)) (starts_append (reverse ys) (reverse xs) e)

digit_shown : (d : ℕ) → digit_value d < 10 → not (is_blank d) ≡ true
digit_shown d h = rw (eqb_not d 32 (λ e. no_space (at 32 e)), eqb_not d 9 (λ e. no_tab (at 9 e)), eqb_not d 13 (λ e. no_return (at 13 e))) refl
  where
    at : (c : ℕ) → d ≡ c → digit_value c < 10
    at c e = subst (λ (x : ℕ). digit_value x < 10) e h

    no_space : digit_value 32 < 10 → ⊥
    no_space k = absurd (omega arith)

    no_tab : digit_value 9 < 10 → ⊥
    no_tab k = absurd (omega arith)

    no_return : digit_value 13 < 10 → ⊥
    no_return k = absurd (omega arith)

ends_digits : (ds : List ℕ) → 0 < length ds → AllDigits 10 ds → Ends ds
ends_digits [] l h = absurd (omega arith)
ends_digits (d ∷ []) l h = digit_shown d h.0
ends_digits (d ∷ e ∷ ds) l h = ends_append (d ∷ []) (e ∷ ds) (ends_digits (e ∷ ds) (omega arith) h.1)

ends_decimal : (n : ℕ) → n < 2 ^ 64 → Ends (decimal n)
ends_decimal n lt = ends_digits (decimal n) (decimal_nonempty n lt) (digits_decimal own n lt)

ends_register : (n : ℕ) → n ≤ 10 → Ends (register_text n)
ends_register n h = ends_append (114 ∷ []) (decimal n) (ends_decimal n (omega arith))

ends_number : (z : ℤ) → FitsSigned w32 z → Ends (signed_decimal z)
ends_number (pos n) h = let m = h.sfits in ends_decimal n (omega arith)
ends_number (negsuc n) h = let m = h.sfits in ends_append (45 ∷ []) (decimal (suc n)) (ends_decimal (suc n) (omega arith))

ends_offset : (z : ℤ) → FitsSigned w32 z → Ends (signed_text z)
ends_offset (pos n) h = let m = h.sfits in ends_append (43 ∷ []) (decimal n) (ends_decimal n (omega arith))
ends_offset (negsuc n) h = let m = h.sfits in ends_append (45 ∷ []) (decimal (suc n)) (ends_decimal (suc n) (omega arith))

ends_operand : (o : Operand) → IsOperand o → Ends (operand_text o)
ends_operand (operand.Imm z) h = ends_number z h
ends_operand (operand.Reg n) h = ends_register n h

ends_memory : (base : ℕ) (offset : ℤ) → Ends (memory_text base offset)
ends_memory base offset = ends_append (91 ∷ []) (register_text base ++ (signed_text offset ++ 93 ∷ []))
    (ends_append (register_text base) (signed_text offset ++ 93 ∷ []) (ends_append (signed_text offset) (93 ∷ []) refl))

ends_joined : (p q : List ℕ) → Ends q → Ends (two_operands p q)
ends_joined p q e = ends_append p (44 ∷ 32 ∷ q) (ends_append (44 ∷ 32 ∷ []) q e)

-- the operands behind a space, or nothing
ends_tail : (insn : Insn) → IsInsn insn → (xs : List ℕ) → Ends xs → Ends (xs ++ tail_text insn)
ends_tail (Alu w op dst src) h xs e = ends_append xs (32 ∷ operands_text (Alu w op dst src)) (ends_append (32 ∷ []) (operands_text (Alu w op dst src)) (ends_joined (register_text dst) (operand_text src) (ends_operand src h.1)))
ends_tail (Mov w dst src) h xs e = ends_append xs (32 ∷ operands_text (Mov w dst src)) (ends_append (32 ∷ []) (operands_text (Mov w dst src)) (ends_joined (register_text dst) (operand_text src) (ends_operand src h.1)))
ends_tail (MovSx x dst src) h xs e = ends_append xs (32 ∷ operands_text (MovSx x dst src)) (ends_append (32 ∷ []) (operands_text (MovSx x dst src)) (ends_joined (register_text dst) (register_text src) (ends_register src h.1)))
ends_tail (Neg w dst) h xs e = ends_append xs (32 ∷ register_text dst) (ends_append (32 ∷ []) (register_text dst) (ends_register dst h))
ends_tail (End o size dst) h xs e = ends_append xs (32 ∷ register_text dst) (ends_append (32 ∷ []) (register_text dst) (ends_register dst h))
ends_tail (LoadWide dst value) h xs e = ends_append xs (32 ∷ operands_text (LoadWide dst value)) (ends_append (32 ∷ []) (operands_text (LoadWide dst value)) (ends_joined (register_text dst) (decimal value) (ends_decimal value h.1)))
ends_tail (Load kind dst base offset) h xs e = ends_append xs (32 ∷ operands_text (Load kind dst base offset)) (ends_append (32 ∷ []) (operands_text (Load kind dst base offset)) (ends_joined (register_text dst) (memory_text base offset) (ends_memory base offset)))
ends_tail (Store size base offset imm) h xs e = ends_append xs (32 ∷ operands_text (Store size base offset imm)) (ends_append (32 ∷ []) (operands_text (Store size base offset imm)) (ends_joined (memory_text base offset) (signed_decimal imm) (ends_number imm h.2)))
ends_tail (StoreRegister size base offset src) h xs e = ends_append xs (32 ∷ operands_text (StoreRegister size base offset src)) (ends_append (32 ∷ []) (operands_text (StoreRegister size base offset src)) (ends_joined (memory_text base offset) (register_text src) (ends_register src h.2)))
ends_tail (Jump offset) h xs e = ends_append xs (32 ∷ signed_text offset) (ends_append (32 ∷ []) (signed_text offset) (ends_offset offset (widened offset h)))
ends_tail (Jump32 offset) h xs e = ends_append xs (32 ∷ signed_text offset) (ends_append (32 ∷ []) (signed_text offset) (ends_offset offset h))
ends_tail (JumpIf w c dst src offset) h xs e = ends_append xs (32 ∷ operands_text (JumpIf w c dst src offset)) (ends_append (32 ∷ []) (operands_text (JumpIf w c dst src offset)) (ends_joined (register_text dst) (two_operands (operand_text src) (signed_text offset)) (ends_joined (operand_text src) (signed_text offset) (ends_offset offset (widened offset h.2)))))
ends_tail (Call helper) h xs e = ends_append xs (32 ∷ decimal helper) (ends_append (32 ∷ []) (decimal helper) (ends_decimal helper (omega arith)))
ends_tail Exit h xs e = subst Ends (sym (append-nil xs)) e

word_starts : (w : Word) → starts (word_text w) ≡ true
word_starts (word.Alu W32 Add) = refl
word_starts (word.Alu W32 op) = refl
word_starts (word.Alu W64 Add) = refl
word_starts (word.Alu W64 op) = refl
word_starts (word.Mov W32) = refl
word_starts (word.Mov W64) = refl
word_starts (word.Neg W32) = refl
word_starts (word.Neg W64) = refl
word_starts (word.MovSx From8To32) = refl
word_starts (word.MovSx extension) = refl
word_starts (word.End Little Bits16) = refl
word_starts (word.End Little size) = refl
word_starts (word.End Big Bits16) = refl
word_starts (word.End Big size) = refl
word_starts (word.End Swap Bits16) = refl
word_starts (word.End Swap size) = refl
word_starts word.LoadWide = refl
word_starts (word.Load loads.Byte) = refl
word_starts (word.Load kind) = refl
word_starts (word.Store sizes.Byte) = refl
word_starts (word.Store size) = refl
word_starts (word.StoreRegister sizes.Byte) = refl
word_starts (word.StoreRegister size) = refl
word_starts word.Jump = refl
word_starts word.Jump32 = refl
word_starts (word.JumpIf W32 Equal) = refl
word_starts (word.JumpIf W32 condition) = refl
word_starts (word.JumpIf W64 Equal) = refl
word_starts (word.JumpIf W64 condition) = refl
word_starts word.Call = refl
word_starts word.Exit = refl

word_ends : (w : Word) → starts (reverse (word_text w)) ≡ true
word_ends (word.Alu W32 Add) = refl
word_ends (word.Alu W32 op) = refl
word_ends (word.Alu W64 Add) = refl
word_ends (word.Alu W64 op) = refl
word_ends (word.Mov W32) = refl
word_ends (word.Mov W64) = refl
word_ends (word.Neg W32) = refl
word_ends (word.Neg W64) = refl
word_ends (word.MovSx From8To32) = refl
word_ends (word.MovSx extension) = refl
word_ends (word.End Little Bits16) = refl
word_ends (word.End Little size) = refl
word_ends (word.End Big Bits16) = refl
word_ends (word.End Big size) = refl
word_ends (word.End Swap Bits16) = refl
word_ends (word.End Swap size) = refl
word_ends word.LoadWide = refl
word_ends (word.Load loads.Byte) = refl
word_ends (word.Load kind) = refl
word_ends (word.Store sizes.Byte) = refl
word_ends (word.Store size) = refl
word_ends (word.StoreRegister sizes.Byte) = refl
word_ends (word.StoreRegister size) = refl
word_ends word.Jump = refl
word_ends word.Jump32 = refl
word_ends (word.JumpIf W32 Equal) = refl
word_ends (word.JumpIf W32 condition) = refl
word_ends (word.JumpIf W64 Equal) = refl
word_ends (word.JumpIf W64 condition) = refl
word_ends word.Call = refl
word_ends word.Exit = refl

-- ---- lines

strips : (ts : List ℕ) → IsClean ts → starts ts ≡ true → Ends ts → stripped ts ≡ ts
strips ts c s e =
    let code : code_part ts ≡ ts = ap code_part (sym (append-nil ts)) ∙ code_front ts [] (right_free 10 59 ts c) tt in
    ap (λ (l : List ℕ). reverse (without_blanks (reverse (without_blanks l)))) code
    ∙ (ap (λ (l : List ℕ). reverse (without_blanks (reverse l))) (starts_kept ts s)
    ∙ (ap reverse (starts_kept (reverse ts) e) ∙ reverse-reverse ts))

line_starts : (insn : Insn) → starts (line_text insn) ≡ true
line_starts insn = starts_append (word_text (word_of_insn insn)) (tail_text insn) (word_starts (word_of_insn insn))

line_strips : (insn : Insn) → IsInsn insn → stripped (line_text insn) ≡ line_text insn
line_strips insn h = strips (line_text insn) (clean_line insn h) (line_starts insn) (ends_tail insn h (word_text (word_of_insn insn)) (word_ends (word_of_insn insn)))

texts_back : (n : ℕ) (insns : List Insn) → AllByRecursion IsInsn insns → texts_of (numbered n (slice_split is_line_feed (lines_text insns))) ≡ map line_text insns
texts_back n [] f = refl
texts_back n (i ∷ insns) f =
    let same = line_strips i f.0 in
    let some : 0 < length (stripped (line_text i)) = subst (λ (l : List ℕ). 0 < length l) (sym same) (starts_some (line_text i) (line_starts i)) in
    let cut : slice_split is_line_feed (lines_text (i ∷ insns)) ≡ line_text i ∷ slice_split is_line_feed (lines_text insns) =
    ap (slice_split is_line_feed) (append_assoc (line_text i) (10 ∷ []) (lines_text insns)) ∙ split_more (line_text i) (lines_text insns) (left_free 10 59 (line_text i) (clean_line i f.0)) in
    ap (λ (l : List (List ℕ)). texts_of (numbered n l)) cut
    ∙ (ap texts_of (numbered_more n (line_text i) (slice_split is_line_feed (lines_text insns)) some)
    ∙ (ap (λ (l : List ℕ). l ∷ texts_of (numbered (n + 1) (slice_split is_line_feed (lines_text insns)))) same
    ∙ ap (λ (l : List (List ℕ)). line_text i ∷ l) (texts_back (n + 1) insns f.1)))

pub read_back : (insns : List Insn) → AllByRecursion IsInsn insns → AreLinesOf insns (source_lines (lines_text insns))
read_back insns f = record { fit = f; read = texts_back 1 insns f }
