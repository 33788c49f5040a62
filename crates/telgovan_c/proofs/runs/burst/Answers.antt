use Rattle.std.proofs.Common.{refl}
use Rattle.telgovan_c.specs.Runs.{ran, refused}
use Rattle.telgovan_c.proofs.runs.burst.Goals as goal

pub returns-in-Ok : goal.returns-in-Ok
returns-in-Ok c = ran c.in-Ok.program (rw c.job.ensures at c.in-Ok.ensures) c.accepted_verdict-verdict.ensures c.run_all.ensures.length c.run_all.ensures.runs

pub returns : goal.returns
returns c = refused c.in-Err.refusal (rw c.job.ensures at c.in-Err.ensures) c.refused_verdict.ensures refl refl
