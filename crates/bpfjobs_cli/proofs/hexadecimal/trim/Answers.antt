use Rattle.std.proofs.Common.{arith, refl}
use Rattle.bpfjobs_cli.proofs.hexadecimal.trim.Goals as goal
use Rattle.bpfjobs_cli.proofs.hexadecimal.trim.Goals.{then-loop-end-test+else-is_trailing, else-loop-end-test}

pub returns : goal.returns
returns c = record {
  count = c.loop-end.end;
  within = c.loop-end.invariant.within;
  taken = refl;
  trails = c.loop-end.invariant.trails;
  last = elim c.loop-end-test.branch [
    | then-loop-end-test+else-is_trailing w ↦ λ some trails. cc (w.is_trailing.ensures.1 trails, w.if-is_trailing.false)
    | else-loop-end-test w ↦ λ some trails. absurd (omega (arith, some, w.loop-end-test.false))
  ];
}
