use Rattle.insn_codec.proofs.OneRefusal.{one_refusal}
use Rattle.insn_codec.proofs.laws.one_refusal.Goals as goal

pub returns : goal.returns
returns c = one_refusal
