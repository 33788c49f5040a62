use Rattle.std.proofs.Common.{ap, get_or, length, arith}
use Rattle.disassembler.proofs.Cuts.{two_back}
use Rattle.assembler.proofs.cut.two_from.Goals as goal
use Rattle.assembler.proofs.cut.two_from.Goals.{else-rest-ge2-via-then-rest-ge2+else-rest-eq32, else-rest-ge2-via-else-rest-ge2}

pub returns-else-rest-ge2-clause-none : goal.returns-else-rest-ge2-clause-none
returns-else-rest-ge2-clause-none c = λ front back t.
    let e = two_back _ _ _ front back c.split_before.ensures.front c.split_before.ensures.back c.split_before.ensures.whole t in
    elim c.else-rest-ge2.branch [
      | else-rest-ge2-via-then-rest-ge2+else-rest-eq32 w ↦ w.if-rest-eq32.false (ap (λ x. get_or x 1 0) e)
      | else-rest-ge2-via-else-rest-ge2 w ↦ absurd (omega (arith, w.if-rest-ge2.false, ap length e))
    ]
