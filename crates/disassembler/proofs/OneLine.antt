-- A line is of one instruction.
use Rattle.std.proofs.Common.{◌≡◌, ℕ, List, ◌++◌, drop, refl, ap, sym, ◌∙◌, inl, arith}
use Rattle.std.specs.Fmt.{decimal, signed_decimal}
use Rattle.std.proofs.lemmas.Fmt.{decimal_injective}
use Rattle.insn_codec.specs.declared.insn.Insn.{Insn}
use Rattle.insn_codec.specs.declared.insn.Insn.TheVariants.{Alu, Mov, Neg, MovSx, End, LoadWide, Load, Store, StoreRegister, Jump, Jump32, JumpIf, Call, Exit}
use Rattle.insn_codec.specs.Spelling.{IsInsn}
use Rattle.disassembler.specs.Line.{line_text, tail_text, register_text, operand_text, memory_text, signed_text, two_operands}
use Rattle.disassembler.specs.Words.{word_text, word_of_insn}
use Rattle.disassembler.specs.Cut.{IsFree, StopsAtOnce}
use Rattle.disassembler.proofs.Cuts.{cut_once}
use Rattle.disassembler.proofs.Words.{word_once, word_free}
use Rattle.disassembler.proofs.Texts.{free_register, free_operand, free_memory, one_register, one_imm, one_offset, one_short_offset, one_operand, one_memory, one_pair}

pub tail_begins : (insn : Insn) → StopsAtOnce 32 32 (tail_text insn)
tail_begins Exit = tt
tail_begins insn = inl refl

-- a line that is cut at its first space
pub cut_line : (line front tail : List ℕ) → line ≡ front ++ tail → IsFree 32 32 front → StopsAtOnce 32 32 tail → (insn : Insn) → line ≡ line_text insn → (front ≡ word_text (word_of_insn insn)) × (tail ≡ tail_text insn)
cut_line line front tail whole a b insn e = cut_once 32 32 front tail (word_text (word_of_insn insn)) (tail_text insn) a (word_free (word_of_insn insn)) b (tail_begins insn) (sym whole ∙ e)

-- two instructions of one line have one word and the same operands
pub one_word : (a b : Insn) → line_text a ≡ line_text b → (word_of_insn a ≡ word_of_insn b) × (tail_text a ≡ tail_text b)
one_word a b e =
    let r = cut_line (line_text a) (word_text (word_of_insn a)) (tail_text a) refl (word_free (word_of_insn a)) (tail_begins a) b e in
    (word_once (word_of_insn a) (word_of_insn b) r.0, r.1)

one_tail : (a b : Insn) → IsInsn a → IsInsn b → word_of_insn a ≡ word_of_insn b → tail_text a ≡ tail_text b → a ≡ b
one_tail (Alu w op dst src) (Alu w' op' dst' src') f g e t =
    let r = one_pair (register_text dst) (operand_text src) (register_text dst') (operand_text src') (free_register dst f.0) (free_register dst' g.0) (ap (drop 1) t) in
    let d = one_register dst dst' f.0 g.0 r.0 in
    let s = one_operand src src' f.1 g.1 r.1 in
    cc
one_tail (Mov w dst src) (Mov w' dst' src') f g e t =
    let r = one_pair (register_text dst) (operand_text src) (register_text dst') (operand_text src') (free_register dst f.0) (free_register dst' g.0) (ap (drop 1) t) in
    let d = one_register dst dst' f.0 g.0 r.0 in
    let s = one_operand src src' f.1 g.1 r.1 in
    cc
one_tail (MovSx x dst src) (MovSx x' dst' src') f g e t =
    let r = one_pair (register_text dst) (register_text src) (register_text dst') (register_text src') (free_register dst f.0) (free_register dst' g.0) (ap (drop 1) t) in
    let d = one_register dst dst' f.0 g.0 r.0 in
    let s = one_register src src' f.1 g.1 r.1 in
    cc
one_tail (Neg w dst) (Neg w' dst') f g e t = let d = one_register dst dst' f g (ap (drop 1) t) in cc
one_tail (End o size dst) (End o' size' dst') f g e t = let d = one_register dst dst' f g (ap (drop 1) t) in cc
one_tail (LoadWide dst value) (LoadWide dst' value') f g e t =
    let r = one_pair (register_text dst) (decimal value) (register_text dst') (decimal value') (free_register dst f.0) (free_register dst' g.0) (ap (drop 1) t) in
    let d = one_register dst dst' f.0 g.0 r.0 in
    let v = decimal_injective value value' f.1 g.1 r.1 in
    cc
one_tail (Load kind dst base offset) (Load kind' dst' base' offset') f g e t =
    let r = one_pair (register_text dst) (memory_text base offset) (register_text dst') (memory_text base' offset') (free_register dst f.0) (free_register dst' g.0) (ap (drop 1) t) in
    let d = one_register dst dst' f.0 g.0 r.0 in
    let m = one_memory base base' offset offset' f.1 g.1 f.2 g.2 r.1 in
    let b = m.0 in
    let o = m.1 in
    cc
one_tail (Store size base offset imm) (Store size' base' offset' imm') f g e t =
    let r = one_pair (memory_text base offset) (signed_decimal imm) (memory_text base' offset') (signed_decimal imm') (free_memory base offset f.0 f.1) (free_memory base' offset' g.0 g.1) (ap (drop 1) t) in
    let m = one_memory base base' offset offset' f.0 g.0 f.1 g.1 r.0 in
    let b = m.0 in
    let o = m.1 in
    let i = one_imm imm imm' f.2 g.2 r.1 in
    cc
one_tail (StoreRegister size base offset src) (StoreRegister size' base' offset' src') f g e t =
    let r = one_pair (memory_text base offset) (register_text src) (memory_text base' offset') (register_text src') (free_memory base offset f.0 f.1) (free_memory base' offset' g.0 g.1) (ap (drop 1) t) in
    let m = one_memory base base' offset offset' f.0 g.0 f.1 g.1 r.0 in
    let b = m.0 in
    let o = m.1 in
    let i = one_register src src' f.2 g.2 r.1 in
    cc
one_tail (Jump offset) (Jump offset') f g e t = ap Jump (one_short_offset offset offset' f g (ap (drop 1) t))
one_tail (Jump32 offset) (Jump32 offset') f g e t = ap Jump32 (one_offset offset offset' f g (ap (drop 1) t))
one_tail (JumpIf w c dst src offset) (JumpIf w' c' dst' src' offset') f g e t =
    let r = one_pair (register_text dst) (two_operands (operand_text src) (signed_text offset)) (register_text dst') (two_operands (operand_text src') (signed_text offset')) (free_register dst f.0) (free_register dst' g.0) (ap (drop 1) t) in
    let q = one_pair (operand_text src) (signed_text offset) (operand_text src') (signed_text offset') (free_operand src f.1) (free_operand src' g.1) r.1 in
    let d = one_register dst dst' f.0 g.0 r.0 in
    let s = one_operand src src' f.1 g.1 q.0 in
    let o = one_short_offset offset offset' f.2 g.2 q.1 in
    cc
one_tail (Call helper) (Call helper') f g e t = ap Call (decimal_injective helper helper' (omega arith) (omega arith) (ap (drop 1) t))
one_tail Exit Exit f g e t = refl
one_tail a b f g e t = absurd cc

pub one_line : (a b : Insn) → IsInsn a → IsInsn b → line_text a ≡ line_text b → a ≡ b
one_line a b f g e = let r = one_word a b e in one_tail a b f g r.0 r.1
