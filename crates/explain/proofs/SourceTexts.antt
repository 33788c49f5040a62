-- Whether a source text says the program that bytes spell, by what assembling it gives.
use Rattle.std.proofs.Common.{◌≡◌, ◌≢◌, ℕ, List, Bool, false, IsTrue, ◌↔◌, ap, sym, subst, ◌∙◌}
use Rattle.std.specs.Str.{bytes_eq}
use Rattle.std.proofs.lemmas.Slice.Eq.{bytes_eq-Decides}
use Rattle.insn_codec.specs.declared.insn.Insn.{Insn}
use Rattle.insn_codec.specs.Spelling.{IsWhole, spellings}
use Rattle.assembler.specs.declared.fault.TextFault.{TextFault}
use Rattle.assembler.specs.declared.fault.TextFault.TheVariants.{NoMemory}
use Rattle.assembler.specs.Source.{IsAssembly, IsTextRefusal, source_lines}
use Rattle.assembler.proofs.NoFault.{nothing_refused, one_program}
use Rattle.explain.specs.Lines.{IsSourceOf}

pub source_found : (source code bytes : List ℕ) (insns : List Insn) (b : Bool) → IsAssembly bytes insns (source_lines source) → b ≡ bytes_eq bytes code →
    IsTrue b ↔ IsSourceOf source code
source_found source code bytes insns b assembly is = (
  λ t. (insns, subst (λ (l : List ℕ). IsAssembly l insns (source_lines source)) ((bytes_eq-Decides bytes code).0 (sym is ∙ t)) assembly),
  λ s.
      let same = one_program insns s.0 (source_lines source) assembly.read s.1.read in
      is ∙ (bytes_eq-Decides bytes code).1 (assembly.spelled ∙ (ap spellings same ∙ sym s.1.spelled)),
)

pub source_refused : (source code : List ℕ) (e : TextFault) → IsTextRefusal e (source_lines source) → e ≢ NoMemory → IsTrue false ↔ IsSourceOf source code
source_refused source code e refused lasting = (
  λ t. absurd cc,
  λ s. absurd (lasting (nothing_refused s.0 (source_lines source) s.1.read (subst IsWhole s.1.spelled s.1.whole) e refused)),
)
