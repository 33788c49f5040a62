use Rattle.std.proofs.Common.{suc, arith}
use Rattle.assembler.proofs.Values.{one_value}
use Rattle.assembler.proofs.reading.negative_from.Goals as goal

pub returns-else-size-gt0 : goal.returns-else-size-gt0
returns-else-size-gt0 c = λ n lt e. let same = one_value _ _ (suc n) c.in_ok-size.ensures.0 c.in_ok-size.ensures.1 (omega arith) e in let k = c.else-size-gt0.either in absurd (grind (arith, k, same))
