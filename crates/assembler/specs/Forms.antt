-- The forms that the text table gives the operands of each word, whatever their numbers: what is of
-- its word's form, and is no instruction's line, has a number or a register out of range.
use Rattle.std.specs.Prelude.{◌≡◌, ◌≢◌, ◌⊎◌, ℕ, List, [], ◌∷◌, ◌++◌, codes}
use Rattle.insn_codec.specs.declared.insn.Insn.{Insn}
use Rattle.insn_codec.specs.Spelling.{IsInsn}
use Rattle.disassembler.specs.declared.word.Word.{Word}
use Rattle.disassembler.specs.declared.word.Word.TheVariants as word
use Rattle.disassembler.specs.Words.{word_text}
use Rattle.disassembler.specs.Line.{two_operands, line_text}
use Rattle.assembler.specs.declared.form.Form.{Form}
use Rattle.assembler.specs.declared.form.Form.TheVariants.{Register, Number, Offset, Source, Memory}
use Rattle.assembler.specs.declared.form.Operands.{Operands}
use Rattle.assembler.specs.declared.form.Operands.TheVariants.{Zero, One, Two, Three}
use Rattle.assembler.specs.Numbers.{IsNumber}

-- the digits of a number, of any length, with no zero in front
abbrev pub IsNumeral : List ℕ → Type 0
IsNumeral ds = (n : ℕ) × IsNumber ds n

-- this byte, and a numeral after it
abbrev pub IsPrefixed : ℕ → List ℕ → Type 0
IsPrefixed c ts = (ds : List ℕ) × (ts ≡ c ∷ ds) × IsNumeral ds

-- a minus and a numeral, but not `-0`
abbrev pub IsNegative : List ℕ → Type 0
IsNegative ts = IsPrefixed 45 ts × (ts ≢ 45 ∷ 48 ∷ [])

abbrev pub IsNumberForm : List ℕ → Type 0
IsNumberForm ts = IsNumeral ts ⊎ IsNegative ts

abbrev pub IsOffsetForm : List ℕ → Type 0
IsOffsetForm ts = IsPrefixed 43 ts ⊎ IsNegative ts

-- a register and an offset between brackets
abbrev pub IsMemoryForm : List ℕ → Type 0
IsMemoryForm ts = (base offset : List ℕ) × (ts ≡ codes "[" ++ (base ++ (offset ++ codes "]")))
    × IsPrefixed 114 base × IsOffsetForm offset

abbrev pub IsOfForm : Form → List ℕ → Type 0
IsOfForm Register ts = IsPrefixed 114 ts
IsOfForm Number ts = IsNumberForm ts
IsOfForm Offset ts = IsOffsetForm ts
IsOfForm Source ts = IsPrefixed 114 ts ⊎ IsNumberForm ts
IsOfForm Memory ts = IsMemoryForm ts

-- two texts with a comma and a space between them
abbrev pub IsPair : (List ℕ → Type 0) → (List ℕ → Type 0) → List ℕ → Type 0
IsPair P Q ts = (front back : List ℕ) × (ts ≡ two_operands front back) × P front × Q back

-- what follows a word with these operands
abbrev pub IsTailOf : Operands → List ℕ → Type 0
IsTailOf Zero tail = tail ≡ []
IsTailOf (One f) tail = (ts : List ℕ) × (tail ≡ 32 ∷ ts) × IsOfForm f ts
IsTailOf (Two f g) tail = (ts : List ℕ) × (tail ≡ 32 ∷ ts) × IsPair (IsOfForm f) (IsOfForm g) ts
IsTailOf (Three f g h) tail =
    (ts : List ℕ) × (tail ≡ 32 ∷ ts) × IsPair (IsOfForm f) (IsPair (IsOfForm g) (IsOfForm h)) ts

abbrev pub operands_of : Word → Operands
operands_of (word.Alu width op) = Two Register Source
operands_of (word.Mov width) = Two Register Source
operands_of (word.MovSx extension) = Two Register Register
operands_of (word.Neg width) = One Register
operands_of (word.End order size) = One Register
operands_of word.LoadWide = Two Register Number
operands_of (word.Load kind) = Two Register Memory
operands_of (word.Store size) = Two Memory Number
operands_of (word.StoreRegister size) = Two Memory Register
operands_of word.Jump = One Offset
operands_of word.Jump32 = One Offset
operands_of (word.JumpIf width condition) = Three Register Source Offset
operands_of word.Call = One Number
operands_of word.Exit = Zero

-- ---- lines

abbrev pub IsBehindWord : List ℕ → Type 0
IsBehindWord [] = Unit {0}
IsBehindWord (c ∷ cs) = c ≡ 32

-- the part of the line in front of its first space is this word
abbrev pub BeginsWithWord : Word → List ℕ → Type 0
BeginsWithWord w line = (tail : List ℕ) × (line ≡ word_text w ++ tail) × IsBehindWord tail

-- the line is this word and operands of its forms
abbrev pub HasForm : Word → List ℕ → Type 0
HasForm w line = (tail : List ℕ) × (line ≡ word_text w ++ tail) × IsTailOf (operands_of w) tail

abbrev pub IsUnknownWord : List ℕ → Type 0
IsUnknownWord line = (w : Word) → BeginsWithWord w line → ⊥

abbrev pub IsBadOperand : List ℕ → Type 0
IsBadOperand line = (w : Word) × BeginsWithWord w line × (HasForm w line → ⊥)

abbrev pub IsOutOfRange : List ℕ → Type 0
IsOutOfRange line = (w : Word) × HasForm w line × ((insn : Insn) → IsInsn insn
    → line ≢ line_text insn)
