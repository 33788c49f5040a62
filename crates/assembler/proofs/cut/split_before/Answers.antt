use Rattle.std.proofs.Common.{arith}
use Rattle.disassembler.proofs.Cuts.{free_more}
use Rattle.assembler.proofs.cut.split_before.Goals as goal

pub loop-i-preserved : goal.loop-i-preserved
loop-i-preserved c = free_more c.args.stop c.args.other c.args.text.now c.loop-i.i (omega arith) c.loop-i.invariant c.if-byte-stop.false c.if-byte-other.false
