use Rattle.assembler.proofs.NoFault.{one_program}
use Rattle.assembler.proofs.law.one_program.Goals as goal

pub returns : goal.returns
returns c = one_program
