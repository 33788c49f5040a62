use Rattle.std.proofs.Common.{refl}
use Rattle.bpfjobs_cli.specs.Shown.{no_job, no_object}
use Rattle.bpfjobs_cli.proofs.requested_job.read_requested_job.Goals as goal

pub returns-in-Err : goal.returns-in-Err
returns-in-Err c = no_object c.in-Err.field-0 c.in-Err.ensures

pub returns-in-Ok-admit : goal.returns-in-Ok-admit
returns-in-Ok-admit c = record {
  object = c.in-Ok.object;
  read = c.in-Ok.ensures;
  admitted = c.in-Ok-admit.field-0;
  is_admitted = rw (c.deref-2.ensures.value, c.in_ok-whole.ensures, c.deref.ensures.value) at c.in-Ok-admit.ensures.admitted;
  spelled = rw c.deref-in-Ok-admit.ensures.value at c.in_ok-job_programs-in-Ok-admit.ensures;
  same_credit = refl;
  same_buffer = refl;
  same_schedule = refl;
}

pub returns : goal.returns
returns c =
    no_job c.in-Ok.object c.in-Err-admit.field-0 c.in-Ok.ensures
    (rw (c.deref-2.ensures.value, c.in_ok-whole.ensures, c.deref.ensures.value) at c.in-Err-admit.ensures.refused)
