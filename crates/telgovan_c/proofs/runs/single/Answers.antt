use Rattle.std.proofs.Common.{refl}
use Rattle.telgovan_c.specs.Runs.{ran, refused}
use Rattle.telgovan_c.proofs.runs.single.Goals as goal

pub returns-in-Ok : goal.returns-in-Ok
returns-in-Ok c = ran c.in-Ok.program (rw c.job.ensures at c.in-Ok.ensures) c.run_program.ensures

pub returns : goal.returns
returns c =
    refused c.in-Err.refusal (rw c.job.ensures at c.in-Err.ensures) (rw (c.from.ensures, c.code.ensures) at c.refused_run.ensures) refl
