-- The line of a source text that a refusal is about.
use Rattle.std.specs.Prelude.{◌≡◌, ℕ, List, Option, Some, None, option_map, slice_get}
use Rattle.std.specs.Str.{IsUtf8}
use Rattle.insn_codec.specs.declared.insn.Placed.{Placed}
use Rattle.insn_codec.specs.Spelling.{IsProgram, IsRefusal}
use Rattle.insn_codec.specs.declared.fault.CodecFault.{CodecFault}
use Rattle.assembler.specs.Source.{source_lines}
use Rattle.assembler.specs.Fault.{line_of}
use Rattle.assembler.specs.Quoted.{line_numbered, quoted_of}
use Rattle.verifier.specs.RefusalCodes.{slot_of_refusal}
use Rattle.explain.specs.declared.lines.SourceLine.{SourceLine}
use Rattle.explain.specs.Lines.{IsIndex, numbered_text}
use Rattle.bpfrun_core.specs.declared.fault.RunFault.{RunFault}
use Rattle.bpfrun_core.specs.declared.fault.RunFault.TheVariants as fault
use Rattle.bpfrun_core.specs.declared.form.FileForm.{FileForm}
use Rattle.bpfrun_core.specs.declared.form.FileForm.TheVariants.{Text, Hexadecimal, Bytes}

-- the line of this number
abbrev pub IsLineNumbered : ℕ → List (ℕ × List ℕ) → Option SourceLine → Type 0
IsLineNumbered number lines place =
    option_map numbered_text place
    ≡ option_map (λ text. (number, text)) (line_numbered number lines)

-- the line of the instruction at this slot, where the bytes are a program and it has one there
pub data IsAtSlot (slot : ℕ) (code : List ℕ) (lines : List (ℕ × List ℕ))
    (place : Option SourceLine) :
    Type 0 where
  there : (placed : List Placed) (k : ℕ) → IsProgram placed code → IsIndex slot placed (Some k)
      → option_map numbered_text place ≡ slice_get lines k → IsAtSlot slot code lines place
  between : (placed : List Placed) → IsProgram placed code → IsIndex slot placed None → place ≡ None
      → IsAtSlot slot code lines place
  no_program : (why : CodecFault) → IsRefusal why code → place ≡ None
      → IsAtSlot slot code lines place

abbrev pub IsLineOf : Option ℕ → List (ℕ × List ℕ) → Option SourceLine → Type 0
IsLineOf None lines place = place ≡ None
IsLineOf (Some number) lines place = IsLineNumbered number lines place

abbrev pub IsAtInsn : Option ℕ → List ℕ → List (ℕ × List ℕ) → Option SourceLine → Type 0
IsAtInsn None code lines place = place ≡ None
IsAtInsn (Some slot) code lines place = IsAtSlot slot code lines place

-- the line that a refusal of a source text is about
abbrev pub IsTextPlace : RunFault → List ℕ → List ℕ → Option SourceLine → Type 0
IsTextPlace fault.NotText input code place = place ≡ None
IsTextPlace fault.NotHexadecimal input code place = place ≡ None
IsTextPlace (fault.Text why) input code place = IsLineOf (line_of why) (source_lines input) place
IsTextPlace fault.MemoryTooLarge input code place = place ≡ None
IsTextPlace (fault.Program why) input code place =
    IsAtInsn (slot_of_refusal why) code (source_lines input) place
IsTextPlace (fault.CreditLow wanted given) input code place = place ≡ None
IsTextPlace (fault.MemoryShort wanted given) input code place = place ≡ None
IsTextPlace fault.NoMemory input code place = place ≡ None

-- no other file has lines
abbrev pub IsFaultPlace : FileForm → RunFault → List ℕ → List ℕ → Option SourceLine → Type 0
IsFaultPlace Text why input code place = IsTextPlace why input code place
IsFaultPlace Hexadecimal why input code place = place ≡ None
IsFaultPlace Bytes why input code place = place ≡ None

-- what a refusal quotes of a source text, which is UTF-8
abbrev pub IsQuote : RunFault → List ℕ → Option (List ℕ) → Type 0
IsQuote fault.NotText input quote = quote ≡ None
IsQuote fault.NotHexadecimal input quote = quote ≡ None
IsQuote (fault.Text why) input quote = IsUtf8 input → quote ≡ quoted_of why input
IsQuote fault.MemoryTooLarge input quote = quote ≡ None
IsQuote (fault.Program why) input quote = quote ≡ None
IsQuote (fault.CreditLow wanted given) input quote = quote ≡ None
IsQuote (fault.MemoryShort wanted given) input quote = quote ≡ None
IsQuote fault.NoMemory input quote = quote ≡ None
