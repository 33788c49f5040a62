use Rattle.std.proofs.Common.{◌≡◌, take}
use Rattle.insn_codec.specs.Spelling.{spellings}
use Rattle.insn_codec.proofs.encoder.encode.Given as goal

abbrev pub invariant-loop-insn : goal.invariant-loop-insn
invariant-loop-insn l = record {
  written : l.bytes.items ≡ spellings (take l.insn-index l.insns);
}
