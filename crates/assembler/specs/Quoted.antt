-- What a refusal quotes of the line that it tells.
use Rattle.std.specs.Prelude.{ℕ, ◌==◌, List, [], ◌∷◌, Option, Some, None, option_map, if◌then◌else◌}
use Rattle.assembler.specs.declared.fault.TextFault.{TextFault}
use Rattle.assembler.specs.declared.fault.TextFault.TheVariants as fault
use Rattle.assembler.specs.Source.{source_lines}

-- what stands in front of the first space
abbrev pub word_part : List ℕ → List ℕ
word_part [] = []
word_part (c ∷ cs) = if c == 32 then [] else c ∷ word_part cs

-- what follows the first space
abbrev pub operands_part : List ℕ → List ℕ
operands_part [] = []
operands_part (c ∷ cs) = if c == 32 then cs else operands_part cs

-- what the line of this number says
abbrev pub line_numbered : ℕ → List (ℕ × List ℕ) → Option (List ℕ)
line_numbered n [] = None
line_numbered n (line ∷ lines) = if line.0 == n then Some line.1 else line_numbered n lines

-- the word of an unknown one's line, else the operands
abbrev pub quoted_of : TextFault → List ℕ → Option (List ℕ)
quoted_of (fault.UnknownWord n) source =
    option_map word_part (line_numbered n (source_lines source))
quoted_of (fault.BadOperand n) source =
    option_map operands_part (line_numbered n (source_lines source))
quoted_of (fault.NumberRange n) source =
    option_map operands_part (line_numbered n (source_lines source))
quoted_of fault.Empty source = None
quoted_of fault.TooLong source = None
quoted_of fault.NoMemory source = None
