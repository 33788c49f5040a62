use Rattle.std.proofs.Common.{refl}
use Rattle.bpfjobs_cli.proofs.declined.read_job.Goals as goal

pub returns-in-Ok-admit-clause-ok : goal.returns-in-Ok-admit-clause-ok
returns-in-Ok-admit-clause-ok c = record {
  object = c.in-Ok.object;
  read = c.in-Ok.ensures;
  admitted = rw c.deref.ensures.value at c.in-Ok-admit.ensures.admitted;
  same_schedule = refl;
}

pub returns-clause-err : goal.returns-clause-err
returns-clause-err c = (c.in-Ok.object, c.in-Ok.ensures, rw c.deref.ensures.value at c.in-Err-admit.ensures.refused)
