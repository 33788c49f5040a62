use Rattle.std.specs.Prelude.{string_bytes}
use Rattle.telgovan_c.specs.JobTraces.{written}
use Rattle.telgovan_c.proofs.job_traces.write_job_steps.Goals as goal

pub returns-in-Ok : goal.returns-in-Ok
returns-in-Ok c = written (string_bytes c.in-Ok.text) c.in-Ok.ensures (rw c.as_bytes.ensures.value at c.write_into.ensures)
