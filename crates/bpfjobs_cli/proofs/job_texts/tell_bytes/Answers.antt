use Rattle.std.proofs.Common.{arith}
use Rattle.bpfjobs_cli.proofs.job_texts.tell_bytes.Goals as goal

pub returns : goal.returns
returns c = λ i.
    let fits = c.type_inv.bytes i in
    omega arith
