-- Which operands an instruction with a given word has.
use Rattle.std.proofs.Common.{◌≡◌, ◌≢◌, ℕ, ◌<◌, ◌≤◌, ◌^◌, List, None, ◌∙◌, arith}
use Rattle.std.specs.Fmt.{decimal, signed_decimal}
use Rattle.insn_codec.specs.declared.insn.Width.{Width}
use Rattle.insn_codec.specs.declared.insn.AluOp.{AluOp}
use Rattle.insn_codec.specs.declared.insn.Condition.{Condition}
use Rattle.insn_codec.specs.declared.insn.SignExtension.{SignExtension}
use Rattle.insn_codec.specs.declared.insn.Size.{Size}
use Rattle.insn_codec.specs.declared.insn.LoadKind.{LoadKind}
use Rattle.insn_codec.specs.declared.insn.Insn.{Insn}
use Rattle.insn_codec.specs.declared.insn.Insn.TheVariants.{Alu, Mov, MovSx, LoadWide, Load, Store, StoreRegister, JumpIf, Call}
use Rattle.insn_codec.specs.Spelling.{IsInsn, IsOperand}
use Rattle.disassembler.specs.Line.{register_text}
use Rattle.disassembler.specs.declared.word.Word.{Word}
use Rattle.disassembler.specs.declared.word.Word.TheVariants as word
use Rattle.disassembler.specs.Words.{word_of_insn}
use Rattle.disassembler.specs.Line.{operands_text, operand_text}
use Rattle.assembler.specs.Reading.{ReadsPair, IsRegisterNumber, IsImm, IsUnsigned64, IsPlace, place_text, IsTested, tested_text}
use Rattle.assembler.proofs.Values.{one_value}

-- no fitting instruction with this word has these operands
abbrev pub NoInsn : Word → List ℕ → Type 0
NoInsn w ts = (insn : Insn) → IsInsn insn → word_of_insn insn ≡ w → ts ≢ operands_text insn

module _ (ts : List ℕ) (w : Word) where
  pub no_alu : (width : Width) (op : AluOp) → w ≡ word.Alu width op → ReadsPair register_text IsRegisterNumber operand_text IsOperand ts None → NoInsn w ts
  no_alu width op is h (Alu x y dst src) f e t = h (dst, src) f t
  no_alu width op is h insn f e t = let both = e ∙ is in absurd cc

  pub no_mov : (width : Width) → w ≡ word.Mov width → ReadsPair register_text IsRegisterNumber operand_text IsOperand ts None → NoInsn w ts
  no_mov width is h (Mov x dst src) f e t = h (dst, src) f t
  no_mov width is h insn f e t = let both = e ∙ is in absurd cc

  pub no_mov_sx : (extension : SignExtension) → w ≡ word.MovSx extension → ReadsPair register_text IsRegisterNumber register_text IsRegisterNumber ts None → NoInsn w ts
  no_mov_sx extension is h (MovSx x dst src) f e t = h (dst, src) f t
  no_mov_sx extension is h insn f e t = let both = e ∙ is in absurd cc

  pub no_load_wide : w ≡ word.LoadWide → ReadsPair register_text IsRegisterNumber decimal IsUnsigned64 ts None → NoInsn w ts
  no_load_wide is h (LoadWide dst value) f e t = h (dst, value) f t
  no_load_wide is h insn f e t = let both = e ∙ is in absurd cc

  pub no_load : (kind : LoadKind) → w ≡ word.Load kind → ReadsPair register_text IsRegisterNumber place_text IsPlace ts None → NoInsn w ts
  no_load kind is h (Load x dst base offset) f e t = h (dst, (base, offset)) (f.0, (f.1, f.2)) t
  no_load kind is h insn f e t = let both = e ∙ is in absurd cc

  pub no_store : (size : Size) → w ≡ word.Store size → ReadsPair place_text IsPlace signed_decimal IsImm ts None → NoInsn w ts
  no_store size is h (Store x base offset imm) f e t = h ((base, offset), imm) ((f.0, f.1), f.2) t
  no_store size is h insn f e t = let both = e ∙ is in absurd cc

  pub no_store_register : (size : Size) → w ≡ word.StoreRegister size → ReadsPair place_text IsPlace register_text IsRegisterNumber ts None → NoInsn w ts
  no_store_register size is h (StoreRegister x base offset src) f e t = h ((base, offset), src) ((f.0, f.1), f.2) t
  no_store_register size is h insn f e t = let both = e ∙ is in absurd cc

  pub no_jump_if : (width : Width) (condition : Condition) → w ≡ word.JumpIf width condition → ReadsPair register_text IsRegisterNumber tested_text IsTested ts None → NoInsn w ts
  no_jump_if width condition is h (JumpIf x y dst src offset) f e t = h (dst, (src, offset)) (f.0, (f.1, f.2)) t
  no_jump_if width condition is h insn f e t = let both = e ∙ is in absurd cc

  pub no_call : (helper : ℕ) → w ≡ word.Call → ts ≡ decimal helper → helper < 2 ^ 64 → 2 ^ 32 ≤ helper → NoInsn w ts
  no_call helper is d lt le (Call x) f e t = let same = one_value ts helper x d lt (omega arith) t in absurd (omega arith)
  no_call helper is d lt le insn f e t = let both = e ∙ is in absurd cc
