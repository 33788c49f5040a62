-- What is written of a text or of a program, as C sees it.
use Rattle.std.specs.Prelude.{◌≡◌, ℕ, ◌<◌, ◌≤◌, List, ◌++◌, length, drop, true, false, Option, Some, None}
use Rattle.std.specs.Str.{IsUtf8}
use Rattle.insn_codec.specs.declared.insn.Insn.{Insn}
use Rattle.insn_codec.specs.declared.fault.CodecFault.{CodecFault}
use Rattle.insn_codec.specs.Fault.{code_of_fault as codec_number, slot_of_fault as codec_slot}
use Rattle.insn_codec.specs.Spelling.{IsRefusal}
use Rattle.disassembler.specs.Line.{IsListing}
use Rattle.assembler.specs.declared.fault.TextFault.{TextFault}
use Rattle.assembler.specs.Fault.{code_of_text_fault as text_number, line_of}
use Rattle.assembler.specs.Source.{IsAssembly, IsTextRefusal, source_lines}
use Rattle.telgovan_c.specs.declared.texts.Written.{Written}

abbrev pub refused_text : ℕ → Option ℕ → Written
refused_text number None = record { length = 0; place = 0; status = number; has_place = false }
refused_text number (Some place) =
    record { length = 0; place = place; status = number; has_place = true }

-- the source text that these bytes are: none where they are no UTF-8
abbrev pub IsSourceText : List ℕ → Option (List ℕ) → Type 0
IsSourceText bytes None = IsUtf8 bytes → ⊥
IsSourceText bytes (Some text) = IsUtf8 bytes × (text ≡ bytes)

-- the bytes stand at the beginning of the room, if they fit, and nothing else of it changes
pub data IsTextWritten (bytes old new : List ℕ) (told : Written) : Type 0 where
  fits : length bytes ≤ length old → new ≡ bytes ++ drop (length bytes) old
      → told ≡ record { length = length bytes; place = 0; status = 0; has_place = false }
      → IsTextWritten bytes old new told
  too_long : length old < length bytes → new ≡ old
      → told ≡ record { length = length bytes; place = 0; status = 65; has_place = false }
      → IsTextWritten bytes old new told

-- of a source text
pub data IsAssembled (source old new : List ℕ) (told : Written) : Type 0 where
  assembled : (bytes : List ℕ) (insns : List Insn) → IsUtf8 source
      → IsAssembly bytes insns (source_lines source) → IsTextWritten bytes old new told
      → IsAssembled source old new told
  refused : (fault : TextFault) → IsUtf8 source → IsTextRefusal fault (source_lines source)
      → new ≡ old → told ≡ refused_text (text_number fault) (line_of fault)
      → IsAssembled source old new told
  no_text : (IsUtf8 source → ⊥) → new ≡ old → told ≡ refused_text 73 None
      → IsAssembled source old new told

-- of bytes, as lines
pub data IsDisassembled (code old new : List ℕ) (told : Written) : Type 0 where
  listed : (listing : List ℕ) (insns : List Insn) → IsListing listing code insns
      → IsTextWritten listing old new told → IsDisassembled code old new told
  refused : (fault : CodecFault) → IsRefusal fault code → new ≡ old
      → told ≡ refused_text (codec_number fault) (codec_slot fault)
      → IsDisassembled code old new told
