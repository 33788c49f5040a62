-- The lines of a source text that say an instruction, and the instruction at a slot.
use Rattle.std.specs.Prelude.{◌≡◌, ◌≢◌, ◌⊎◌, ℕ, ◌==◌, List, [], ◌∷◌, length, Option, Some, None, option_map, slice_get, string_bytes, if◌then◌else◌}
use Rattle.insn_codec.specs.declared.insn.Insn.{Insn}
use Rattle.insn_codec.specs.declared.insn.Placed.{Placed}
use Rattle.insn_codec.specs.declared.fault.CodecFault.{CodecFault}
use Rattle.insn_codec.specs.Spelling.{IsProgram, IsRefusal}
use Rattle.disassembler.specs.Line.{line_text}
use Rattle.assembler.specs.Source.{IsAssembly, source_lines}
use Rattle.explain.specs.declared.lines.SourceLine.{SourceLine}
use Rattle.explain.specs.declared.explanation.InstructionPlace.{InstructionPlace}

-- a line as the definitions have it
abbrev pub numbered_text : SourceLine → ℕ × List ℕ
numbered_text line = (line.number, line.text.now)

-- a line with nothing left counts, but says nothing
abbrev pub said : ℕ → List ℕ → List (ℕ × List ℕ)
said number text = if length text == 0 then [] else (number, text) ∷ []

-- the number of the instruction at this slot
abbrev pub IsIndex : ℕ → List Placed → Option ℕ → Type 0
IsIndex slot placed None = (k : ℕ) (p : Placed) → slice_get placed k ≡ Some p → p.slot ≢ slot
IsIndex slot placed (Some k) = (p : Placed) × (slice_get placed k ≡ Some p) × (p.slot ≡ slot)

-- the lines of a source text, if there is one
abbrev pub lines_in : Option (List ℕ) → List (ℕ × List ℕ)
lines_in None = []
lines_in (Some source) = source_lines source

-- the source text says the program that these bytes spell
abbrev pub IsSourceOf : List ℕ → List ℕ → Type 0
IsSourceOf source code = (insns : List Insn) × IsAssembly code insns (source_lines source)

-- the lines of a source text, where it says the program, and none else
abbrev pub AreLinesFor : List ℕ → Option (List ℕ) → List (ℕ × List ℕ) → Type 0
AreLinesFor code None lines = lines ≡ []
AreLinesFor code (Some source) lines =
    (IsSourceOf source code × (lines ≡ source_lines source))
    ⊎ ((IsSourceOf source code → ⊥) × (lines ≡ []))

-- an instruction of a program: its slot, its text, and the number of its line among these
pub record IsPlacedAs (placed : List Placed) (lines : List (ℕ × List ℕ)) (slot : ℕ)
    (place : InstructionPlace) : Type 0 where
  pub index : ℕ
  pub one : Placed
  pub there : slice_get placed index ≡ Some one
  pub begins : one.slot ≡ slot
  pub same : place.slot ≡ slot
  pub text : string_bytes place.text ≡ line_text one.insn
  pub line : place.line ≡ option_map (λ line. line.0) (slice_get lines index)

-- the instruction at a slot of a program, if one begins there
abbrev pub IsPlaceIn : List Placed → List (ℕ × List ℕ) → ℕ → Option InstructionPlace → Type 0
IsPlaceIn placed lines slot None = IsIndex slot placed None
IsPlaceIn placed lines slot (Some place) = IsPlacedAs placed lines slot place

-- The instruction at a slot, with its line in the source text that says the program. None where the
-- bytes are no program.
pub data IsPlaceAt (code : List ℕ) (source : Option (List ℕ)) (slot : ℕ)
    (place : Option InstructionPlace) :
    Type 0 where
  among : (placed : List Placed) → IsProgram placed code → (lines : List (ℕ × List ℕ))
      → AreLinesFor code source lines → IsPlaceIn placed lines slot place
      → IsPlaceAt code source slot place
  no_program : (why : CodecFault) → IsRefusal why code → place ≡ None
      → IsPlaceAt code source slot place

-- the instruction at a slot, if there is one
abbrev pub IsPlaceOf : List ℕ → Option (List ℕ) → Option ℕ → Option InstructionPlace → Type 0
IsPlaceOf code source None place = place ≡ None
IsPlaceOf code source (Some slot) place = IsPlaceAt code source slot place
