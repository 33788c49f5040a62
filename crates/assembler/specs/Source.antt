-- How a source text is read, and what a refusal says.
use Rattle.std.specs.Prelude.{◌≡◌, ℕ, ◌+◌, ◌*◌, ◌<◌, ◌==◌, Bool, ◌||◌, List, [], ◌∷◌, ◌++◌, length, map, reverse, Option, Some, None, if◌then◌else◌}
use Rattle.std.specs.List.{slice_split, AllByRecursion}
use Rattle.insn_codec.specs.Limits.{max_slots}
use Rattle.insn_codec.specs.declared.insn.Insn.{Insn}
use Rattle.insn_codec.specs.Spelling.{IsInsn, spellings, IsWhole}
use Rattle.disassembler.specs.Line.{line_text}
use Rattle.assembler.specs.declared.fault.TextFault.{TextFault}
use Rattle.assembler.specs.declared.fault.TextFault.TheVariants as fault
use Rattle.assembler.specs.Forms.{IsUnknownWord, IsBadOperand, IsOutOfRange}

-- what stands in front of the first semicolon
abbrev pub code_part : List ℕ → List ℕ
code_part [] = []
code_part (c ∷ cs) = if c == 59 then [] else c ∷ code_part cs

-- a space, a tab or a carriage return
abbrev pub is_blank : ℕ → Bool
is_blank c = c == 32 || (c == 9 || c == 13)

abbrev pub without_blanks : List ℕ → List ℕ
without_blanks [] = []
without_blanks (c ∷ cs) = if is_blank c then without_blanks cs else c ∷ cs

abbrev pub stripped : List ℕ → List ℕ
stripped line = reverse (without_blanks (reverse (without_blanks (code_part line))))

abbrev pub is_line_feed : ℕ → Bool
is_line_feed c = c == 10

-- The lines of a source text, numbered; those with nothing left count, but say nothing.
abbrev pub numbered : ℕ → List (List ℕ) → List (ℕ × List ℕ)
numbered n [] = []
numbered n (line ∷ lines) = if length (stripped line) ==
    0 then numbered (n + 1) lines else (n, stripped line) ∷ numbered (n + 1) lines

abbrev pub source_lines : List ℕ → List (ℕ × List ℕ)
source_lines source = numbered 1 (slice_split is_line_feed source)

abbrev pub texts_of : List (ℕ × List ℕ) → List (List ℕ)
texts_of lines = map (λ x. x.1) lines

-- the lines are the lines of these instructions
pub record AreLinesOf (insns : List Insn) (lines : List (ℕ × List ℕ)) : Type 0 where
  pub fit : AllByRecursion IsInsn insns
  pub read : texts_of lines ≡ map line_text insns

-- the bytes of the instructions that the lines say
pub record IsAssembly (bytes : List ℕ) (insns : List Insn) (lines : List (ℕ × List ℕ)) :
    Type 0 where
  pub read : AreLinesOf insns lines
  pub spelled : bytes ≡ spellings insns
  pub whole : IsWhole bytes

-- the line of this number, with instructions' lines alone before it, is such
pub record IsAtLine (n : ℕ) (lines : List (ℕ × List ℕ)) (P : List ℕ → Type 0) : Type 0 where
  pub before : List (ℕ × List ℕ)
  pub line : List ℕ
  pub after : List (ℕ × List ℕ)
  pub insns : List Insn
  pub parts : lines ≡ before ++ (n, line) ∷ after
  pub read : AreLinesOf insns before
  pub told : P line

abbrev pub IsTextRefusal : TextFault → List (ℕ × List ℕ) → Type 0
IsTextRefusal (fault.UnknownWord n) lines = IsAtLine n lines IsUnknownWord
IsTextRefusal (fault.BadOperand n) lines = IsAtLine n lines IsBadOperand
IsTextRefusal (fault.NumberRange n) lines = IsAtLine n lines IsOutOfRange
IsTextRefusal fault.Empty lines = lines ≡ []
IsTextRefusal fault.TooLong lines =
    (insns : List Insn) × AreLinesOf insns lines × (8 * max_slots < length (spellings insns))
IsTextRefusal fault.NoMemory lines = 0 < length lines

-- ---- one line more

-- the line says nothing, or this instruction
abbrev pub SaysInsn : List ℕ → Option Insn → Type 0
SaysInsn line None = stripped line ≡ []
SaysInsn line (Some insn) =
    IsInsn insn × (0 < length (stripped line)) × (stripped line ≡ line_text insn)

-- at most one item
abbrev pub listed : {A : Type 0} → Option A → List A
listed None = []
listed (Some x) = x ∷ []

abbrev pub TellsLine : TextFault → ℕ → List ℕ → Type 0
TellsLine (fault.UnknownWord m) n ts = (m ≡ n) × IsUnknownWord ts
TellsLine (fault.BadOperand m) n ts = (m ≡ n) × IsBadOperand ts
TellsLine (fault.NumberRange m) n ts = (m ≡ n) × IsOutOfRange ts
TellsLine fault.NoMemory n ts = Unit {0}
TellsLine e n ts = ⊥

-- a refusal at this line
pub record RefusesLine (e : TextFault) (n : ℕ) (line : List ℕ) : Type 0 where
  pub some : 0 < length (stripped line)
  pub told : TellsLine e n (stripped line)
