use Rattle.std.proofs.Common.{◌≡◌, map, take}
use Rattle.std.specs.Prelude.{string_bytes}
use Rattle.disassembler.specs.Line.{lines_text}
use Rattle.disassembler.proofs.printing.disassemble.Given as goal

abbrev pub invariant-loop-placed : goal.invariant-loop-placed
invariant-loop-placed l = record {
  written : string_bytes l.text ≡ lines_text (map (λ p. p.insn) (take l.placed-index l.placed-items));
}
