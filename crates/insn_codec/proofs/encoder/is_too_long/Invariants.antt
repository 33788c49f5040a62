use Rattle.std.proofs.Common.{◌≡◌, ◌≤◌, ◌*◌, length, take}
use Rattle.insn_codec.specs.Spelling.{spellings}
use Rattle.insn_codec.proofs.encoder.is_too_long.Given as goal

abbrev pub invariant-loop-insn : goal.invariant-loop-insn
invariant-loop-insn l = record {
  counted : 8 * l.slots ≡ length (spellings (take l.insn-index l.insns));
  short : l.slots ≤ 4096;
}
