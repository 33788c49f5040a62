use Rattle.assembler.proofs.ReadBack.{read_back}
use Rattle.assembler.proofs.law.read_back.Goals as goal

pub returns : goal.returns
returns c = read_back
