-- The numbers of the refusals, and their lines.
use Rattle.std.specs.Prelude.{ℕ, Option, Some, None}
use Rattle.assembler.specs.declared.fault.TextFault.{TextFault}
use Rattle.assembler.specs.declared.fault.TextFault.TheVariants.{UnknownWord, BadOperand, NumberRange, Empty, TooLong, NoMemory}

abbrev pub code_of_text_fault : TextFault → ℕ
code_of_text_fault (UnknownWord line) = 11
code_of_text_fault (BadOperand line) = 12
code_of_text_fault (NumberRange line) = 13
code_of_text_fault Empty = 1
code_of_text_fault TooLong = 3
code_of_text_fault NoMemory = 99

-- the line that it tells, if it tells one
abbrev pub line_of : TextFault → Option ℕ
line_of (UnknownWord line) = Some line
line_of (BadOperand line) = Some line
line_of (NumberRange line) = Some line
line_of Empty = None
line_of TooLong = None
line_of NoMemory = None
