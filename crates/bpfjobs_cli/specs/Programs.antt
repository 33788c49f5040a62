-- What is printed of a program: its bytes, its lines or its cost, or the refusal.
use Rattle.std.specs.Prelude.{ℕ, List, [], ◌∷◌, ◌++◌, Option, Some, None}
use Rattle.std.specs.Str.{IsUtf8}
use Rattle.hex.specs.Hex.{encode_lower}
use Rattle.insn_codec.specs.declared.insn.Insn.{Insn}
use Rattle.insn_codec.specs.declared.fault.CodecFault.{CodecFault}
use Rattle.insn_codec.specs.Fault.{code_of_fault as codec_number, slot_of_fault as codec_slot}
use Rattle.insn_codec.specs.Spelling.{IsRefusal}
use Rattle.disassembler.specs.Line.{IsListing}
use Rattle.assembler.specs.declared.fault.TextFault.{TextFault}
use Rattle.assembler.specs.Fault.{code_of_text_fault as text_number, line_of}
use Rattle.assembler.specs.Source.{IsAssembly, IsTextRefusal, source_lines}
use Rattle.helpers.specs.Table.{job_table}
use Rattle.verifier.specs.declared.refusals.Refusal.{Refusal}
use Rattle.verifier.specs.Checked.{Checked, cost_at}
use Rattle.verifier.specs.RefusalCodes.{code_of_refusal, slot_of_refusal}
use Rattle.verifier.specs.Refusals.{IsAccepted, RefusesProgram}
use Rattle.bpfjobs_cli.specs.Hexadecimal.{IsHexadecimal, IsNoHexadecimal}
use Rattle.bpfjobs_cli.specs.Printed.{Prints, accepted_line, refusal_line}

-- of a source text
pub data PrintsAssembly (source text : List ℕ) (status : ℕ) (code : Option ℕ) : Type 0 where
  assembled : (bytes : List ℕ) (insns : List Insn) → IsUtf8 source
      → IsAssembly bytes insns (source_lines source)
      → Prints text status code (encode_lower bytes ++ 10 ∷ []) 0 None → PrintsAssembly source text status code
  refused : (fault : TextFault) → IsUtf8 source → IsTextRefusal fault (source_lines source)
      → Prints text status code (refusal_line (text_number fault) (line_of fault)) 1
      (Some (text_number fault))
      → PrintsAssembly source text status code
  no_text : (IsUtf8 source → ⊥) → Prints text status code (refusal_line 73 None) 1 (Some 73)
      → PrintsAssembly source text status code

-- of bytes in hexadecimal, as lines
pub data PrintsListing (input text : List ℕ) (status : ℕ) (code : Option ℕ) : Type 0 where
  listed : (bytes listing : List ℕ) (insns : List Insn) → IsHexadecimal input bytes
      → IsListing listing bytes insns → Prints text status code listing 0 None
      → PrintsListing input text status code
  refused : (bytes : List ℕ) (fault : CodecFault) → IsHexadecimal input bytes
      → IsRefusal fault bytes
      → Prints text status code (refusal_line (codec_number fault) (codec_slot fault)) 1
      (Some (codec_number fault))
      → PrintsListing input text status code
  no_hexadecimal : IsNoHexadecimal input → Prints text status code (refusal_line 73 None) 1 (Some 73)
      → PrintsListing input text status code

-- the verdict on bytes in hexadecimal
pub data PrintsVerdict (need : ℕ) (input text : List ℕ) (status : ℕ) (code : Option ℕ) : Type 0 where
  accepted : (bytes : List ℕ) (program : Checked) → IsHexadecimal input bytes
      → IsAccepted need bytes job_table program
      → Prints text status code (accepted_line (cost_at program 0)) 0 None
      → PrintsVerdict need input text status code
  refused : (bytes : List ℕ) (refusal : Refusal) → IsHexadecimal input bytes
      → RefusesProgram need bytes job_table refusal
      → Prints text status code (refusal_line (code_of_refusal refusal) (slot_of_refusal refusal)) 1
      (Some (code_of_refusal refusal))
      → PrintsVerdict need input text status code
  no_hexadecimal : IsNoHexadecimal input → Prints text status code (refusal_line 73 None) 1 (Some 73)
      → PrintsVerdict need input text status code
