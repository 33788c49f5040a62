use Rattle.disassembler.proofs.OneLine.{one_line}
use Rattle.disassembler.proofs.law.one_line.Goals as goal

pub returns : goal.returns
returns c = one_line
