use Rattle.std.proofs.Common.{refl}
use Rattle.assembler.proofs.FormLemmas.{unknown, bad_operand, never}
use Rattle.assembler.proofs.line.fault_of.Goals as goal

pub returns-in_default : goal.returns-in_default
returns-in_default c = (refl, unknown _ _ _ c.split_before.ensures.whole c.split_before.ensures.front c.split_before.ensures.back c.in_default.ensures.none)

pub returns-else-is_tail_of : goal.returns-else-is_tail_of
returns-else-is_tail_of c = (refl, bad_operand _ _ _ c.split_before.ensures.whole c.split_before.ensures.front c.split_before.ensures.back c.in-Some.word _ c.in-Some.ensures.found c.operands_of.ensures (λ h. never (c.if-is_tail_of.ensures.1 h)))
