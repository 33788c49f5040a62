use Rattle.assembler.proofs.OneRefusal.{one_refusal}
use Rattle.assembler.proofs.law.one_refusal.Goals as goal

pub returns : goal.returns
returns c = one_refusal
