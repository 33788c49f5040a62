use Rattle.std.proofs.Common.{take}
use Rattle.disassembler.specs.Cut.{IsFree}
use Rattle.assembler.proofs.cut.split_before.Given as goal

abbrev pub invariant-loop-i : goal.invariant-loop-i
invariant-loop-i l = IsFree l.stop l.other (take l.i l.text)
