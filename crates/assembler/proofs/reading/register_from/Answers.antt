use Rattle.std.proofs.Common.{◌∙◌, arith}
use Rattle.assembler.proofs.Values.{one_value, behind_r}
use Rattle.assembler.proofs.reading.register_from.Goals as goal

pub returns-else-number-le10 : goal.returns-else-number-le10
returns-else-number-le10 c = λ n lt e. let same = one_value _ _ n c.in_ok-number.ensures.0 c.in_ok-number.ensures.1 (omega arith) (c.split_at.ensures.back ∙ behind_r _ n e) in absurd (omega arith)
