use Rattle.assembler.proofs.NoFault.{nothing_refused}
use Rattle.assembler.proofs.law.nothing_refused.Goals as goal

pub returns : goal.returns
returns c = nothing_refused
