-- How a program's file is written, and which bytes it says.
use Rattle.std.specs.Prelude.{◌≡◌, ◌≢◌, ◌⊎◌, ℕ, List, Option, Some, None, codes, eqb, if◌then◌else◌}
use Rattle.std.specs.List.{ends_with}
use Rattle.std.specs.Str.{IsUtf8}
use Rattle.insn_codec.specs.declared.insn.Insn.{Insn}
use Rattle.assembler.specs.declared.fault.TextFault.TheVariants as text_fault
use Rattle.assembler.specs.Source.{IsAssembly, IsTextRefusal, source_lines}
use Rattle.bpfjobs_cli.specs.Hexadecimal.{IsHexadecimal, IsNoHexadecimal}
use Rattle.bpfrun_core.specs.declared.fault.RunFault.{RunFault}
use Rattle.bpfrun_core.specs.declared.fault.RunFault.TheVariants as fault
use Rattle.bpfrun_core.specs.declared.form.FileForm.{FileForm}
use Rattle.bpfrun_core.specs.declared.form.FileForm.TheVariants.{Text, Hexadecimal, Bytes}

-- the form that the end of a path tells
abbrev pub form_of : List ℕ → FileForm
form_of path = if ends_with eqb path (codes ".bpf") then Text
    else (if ends_with eqb path (codes ".hex") then Hexadecimal else Bytes)

-- the source text of a file, if it is one
abbrev pub source_in : FileForm → List ℕ → Option (List ℕ)
source_in Text input = Some input
source_in Hexadecimal input = None
source_in Bytes input = None

-- the same, or none where the text is no UTF-8
abbrev pub IsFileSource : FileForm → List ℕ → Option (List ℕ) → Type 0
IsFileSource form input None = (source_in form input ≡ None) ⊎ (IsUtf8 input → ⊥)
IsFileSource form input (Some text) = source_in form input ≡ Some text

-- the bytes are those that the file says
abbrev pub IsRead : FileForm → List ℕ → List ℕ → Type 0
IsRead Text input bytes =
    IsUtf8 input × ((insns : List Insn) × IsAssembly bytes insns (source_lines input))
IsRead Hexadecimal input bytes = IsHexadecimal input bytes
IsRead Bytes input bytes = bytes ≡ input

-- the file says none, for this refusal
abbrev pub IsUnread : FileForm → List ℕ → RunFault → Type 0
IsUnread form input fault.NotText = (form ≡ Text) × (IsUtf8 input → ⊥)
IsUnread form input fault.NotHexadecimal = (form ≡ Hexadecimal) × IsNoHexadecimal input
IsUnread form input (fault.Text why) = (form ≡ Text) × IsUtf8 input
    × IsTextRefusal why (source_lines input) × (why ≢ text_fault.NoMemory)
IsUnread form input fault.MemoryTooLarge = ⊥
IsUnread form input (fault.Program why) = ⊥
IsUnread form input (fault.CreditLow wanted given) = ⊥
IsUnread form input (fault.MemoryShort wanted given) = ⊥
IsUnread form input fault.NoMemory = Unit {0}
