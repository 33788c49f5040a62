use Rattle.std.proofs.Common.{arith}
use Rattle.assembler.proofs.Values.{one_value}
use Rattle.assembler.proofs.reading.positive_from.Goals as goal

pub returns-else-size-lt2147483648 : goal.returns-else-size-lt2147483648
returns-else-size-lt2147483648 c = λ n lt e. let same = one_value _ _ n c.in_ok-size.ensures.0 c.in_ok-size.ensures.1 (omega arith) e in absurd (omega arith)
