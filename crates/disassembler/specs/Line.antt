-- The text table: the line of an instruction. One space follows the word; operands are joined by a
-- comma and a space.
use Rattle.std.specs.Prelude.{ℕ, ℤ, pos, suc, List, [], ◌∷◌, ◌++◌, codes, ◌≡◌}
use Rattle.std.specs.Fmt.{decimal, signed_decimal}
use Rattle.std.specs.List.{flat_map, AllByRecursion}
use lib.IntN.{negsuc}
use Rattle.insn_codec.specs.declared.insn.Operand.{Operand}
use Rattle.insn_codec.specs.declared.insn.Operand.TheVariants as operand
use Rattle.insn_codec.specs.declared.insn.Insn.{Insn}
use Rattle.insn_codec.specs.declared.insn.Insn.TheVariants.{Alu, Mov, Neg, MovSx, End, LoadWide, Load, Store, StoreRegister, Jump, Jump32, JumpIf, Call, Exit}
use Rattle.insn_codec.specs.Spelling.{IsInsn, IsWhole, spellings}
use Rattle.disassembler.specs.Words.{word_text, word_of_insn}

-- a register, as `r10`
abbrev pub register_text : ℕ → List ℕ
register_text n = codes "r" ++ decimal n

-- an offset: a sign and a decimal number, zero with a plus
abbrev pub signed_text : ℤ → List ℕ
signed_text (pos n) = codes "+" ++ decimal n
signed_text (negsuc n) = codes "-" ++ decimal (suc n)

-- a register, or a number without a plus
abbrev pub operand_text : Operand → List ℕ
operand_text (operand.Imm imm) = signed_decimal imm
operand_text (operand.Reg src) = register_text src

-- a place in memory, as `[r10-8]`
abbrev pub memory_text : ℕ → ℤ → List ℕ
memory_text base offset = codes "[" ++ (register_text base ++ (signed_text offset ++ codes "]"))

-- two operands
abbrev pub two_operands : List ℕ → List ℕ → List ℕ
two_operands front back = front ++ (codes ", " ++ back)

-- a register, what it is compared with, and an offset
abbrev pub branch_text : ℕ → Operand → ℤ → List ℕ
branch_text dst src offset =
    two_operands (register_text dst) (two_operands (operand_text src) (signed_text offset))

abbrev pub operands_text : Insn → List ℕ
operands_text (Alu width op dst src) = two_operands (register_text dst) (operand_text src)
operands_text (Mov width dst src) = two_operands (register_text dst) (operand_text src)
operands_text (MovSx extension dst src) = two_operands (register_text dst) (register_text src)
operands_text (Neg width dst) = register_text dst
operands_text (End order size dst) = register_text dst
operands_text (LoadWide dst value) = two_operands (register_text dst) (decimal value)
operands_text (Load kind dst base offset) =
    two_operands (register_text dst) (memory_text base offset)
operands_text (Store size base offset imm) =
    two_operands (memory_text base offset) (signed_decimal imm)
operands_text (StoreRegister size base offset src) =
    two_operands (memory_text base offset) (register_text src)
operands_text (Jump offset) = signed_text offset
operands_text (Jump32 offset) = signed_text offset
operands_text (JumpIf width condition dst src offset) = branch_text dst src offset
operands_text (Call helper) = decimal helper
operands_text Exit = []

-- what follows the word
abbrev pub tail_text : Insn → List ℕ
tail_text Exit = []
tail_text insn = codes " " ++ operands_text insn

abbrev pub line_text : Insn → List ℕ
line_text insn = word_text (word_of_insn insn) ++ tail_text insn

-- the lines of a program, each with a line feed after it
abbrev pub lines_text : List Insn → List ℕ
lines_text insns = flat_map (λ insn. line_text insn ++ 10 ∷ []) insns

-- the text of these bytes, which spell these instructions
pub record IsListing (listing bytes : List ℕ) (insns : List Insn) : Type 0 where
  pub whole : IsWhole bytes
  pub fit : AllByRecursion IsInsn insns
  pub spelled : bytes ≡ spellings insns
  pub written : listing ≡ lines_text insns
