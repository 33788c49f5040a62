use Rattle.telgovan_c.specs.Verdicts.{accepted, refused}
use Rattle.telgovan_c.proofs.verdicts.verdict_on.Goals as goal

pub returns-in-Ok : goal.returns-in-Ok
returns-in-Ok c = accepted c.in-Ok.program (rw c.job.ensures at c.in-Ok.ensures) c.accepted_verdict.ensures

pub returns : goal.returns
returns c = refused c.in-Err.refusal (rw c.job.ensures at c.in-Err.ensures) c.refused_verdict.ensures
