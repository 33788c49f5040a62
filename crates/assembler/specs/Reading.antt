-- What a reader of texts answers: the value that has this text, or that no fitting value has it.
use Rattle.std.specs.Prelude.{◌≡◌, ◌≢◌, ℕ, ℤ, pos, suc, ◌<◌, ◌≤◌, ◌^◌, List, [], ◌∷◌, Option, Some, None, FitsSigned, nat_abs, ◌≤ℤ◌, if◌then◌else◌}
use Rattle.std.specs.Str.{bytes_eq}
use Rattle.std.specs.Int.{w16, w32}
use Rattle.std.specs.Fmt.{decimal, signed_decimal}
use lib.IntN.{negsuc}
use Rattle.insn_codec.specs.declared.insn.Operand.{Operand}
use Rattle.insn_codec.specs.declared.insn.Insn.{Insn}
use Rattle.insn_codec.specs.Spelling.{IsOperand, IsInsn}
use Rattle.disassembler.specs.declared.word.Word.{Word}
use Rattle.disassembler.specs.Words.{word_of_insn}
use Rattle.disassembler.specs.Line.{operands_text}
use Rattle.disassembler.specs.Line.{register_text, signed_text}
use Rattle.disassembler.specs.Line.{operand_text, memory_text, two_operands}

abbrev pub Reads : {A : Type 0} → (A → List ℕ) → (A → Type 0) → List ℕ → Option A → Type 0
Reads written Fits ts None = (a : _) → Fits a → ts ≢ written a
Reads written Fits ts (Some a) = (ts ≡ written a) × Fits a

abbrev pub ReadsValue : List ℕ → Option ℕ → Type 0
ReadsValue = Reads decimal (λ n. n < 2 ^ 64)

abbrev pub ReadsRegister : List ℕ → Option ℕ → Type 0
ReadsRegister = Reads register_text (λ n. n ≤ 10)

abbrev pub ReadsImm : List ℕ → Option ℤ → Type 0
ReadsImm = Reads signed_decimal (λ z. FitsSigned w32 z)

abbrev pub ReadsWideOffset : List ℕ → Option ℤ → Type 0
ReadsWideOffset = Reads signed_text (λ z. FitsSigned w32 z)

abbrev pub ReadsOffset : List ℕ → Option ℤ → Type 0
ReadsOffset = Reads signed_text (λ z. FitsSigned w16 z)

abbrev pub ReadsOperand : List ℕ → Option Operand → Type 0
ReadsOperand = Reads operand_text IsOperand

abbrev pub ReadsMemory : List ℕ → Option (ℕ × ℤ) → Type 0
ReadsMemory = Reads (λ m. memory_text m.0 m.1) (λ m. (m.0 ≤ 10) × FitsSigned w16 m.1)

-- what a reader answers of the digits after a minus, and of those after a plus or nothing
abbrev pub ReadsNegative : List ℕ → Option ℤ → Type 0
ReadsNegative ds None = (n : ℕ) → n < 2 ^ 31 → ds ≢ decimal (suc n)
ReadsNegative ds (Some z) = (ds ≡ decimal (nat_abs z)) × (z ≤ℤ negsuc 0) × (nat_abs z ≤ 2 ^ 31)

abbrev pub ReadsPositive : List ℕ → Option ℤ → Type 0
ReadsPositive ds None = (n : ℕ) → n < 2 ^ 31 → ds ≢ decimal n
ReadsPositive ds (Some z) = (ds ≡ decimal (nat_abs z)) × (pos 0 ≤ℤ z) × (nat_abs z < 2 ^ 31)

abbrev pub IsRegisterNumber : ℕ → Type 0
IsRegisterNumber n = n ≤ 10

abbrev pub IsOffset : ℤ → Type 0
IsOffset z = FitsSigned w16 z

abbrev pub IsImm : ℤ → Type 0
IsImm z = FitsSigned w32 z

abbrev pub IsUnsigned64 : ℕ → Type 0
IsUnsigned64 n = n < 2 ^ 64

abbrev pub place_text : ℕ × ℤ → List ℕ
place_text m = memory_text m.0 m.1

abbrev pub IsPlace : ℕ × ℤ → Type 0
IsPlace m = IsRegisterNumber m.0 × IsOffset m.1

-- two operands with a comma and a space between them
abbrev pub ReadsPair : {A B : Type 0} → (A → List ℕ) → (A → Type 0) → (B → List ℕ) → (B → Type 0)
    → List ℕ → Option (A × B) → Type 0
ReadsPair written Fits written2 Fits2 =
    Reads (λ x. two_operands (written x.0) (written2 x.1)) (λ x. Fits x.0 × Fits2 x.1)

abbrev pub tested_text : Operand × ℤ → List ℕ
tested_text x = two_operands (operand_text x.0) (signed_text x.1)

abbrev pub IsTested : Operand × ℤ → Type 0
IsTested x = IsOperand x.0 × IsOffset x.1

-- the word beside the first entry of this text
abbrev pub first_named : List (List ℕ × Word) → List ℕ → Option Word
first_named [] ts = None
first_named (e ∷ es) ts = if bytes_eq e.0 ts then Some e.1 else first_named es ts

-- the instruction of this word with these operands
abbrev pub ReadsInsn : Word → List ℕ → Option Insn → Type 0
ReadsInsn w ts None = (insn : Insn) → IsInsn insn → word_of_insn insn ≡ w → ts ≢ operands_text insn
ReadsInsn w ts (Some insn) = (word_of_insn insn ≡ w) × (ts ≡ operands_text insn) × IsInsn insn
