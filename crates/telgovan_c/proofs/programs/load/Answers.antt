use Rattle.std.proofs.Common.{ap, ◌∙◌, refl, Some}
use Rattle.verifier.specs.declared.refusals.Refusal.TheVariants.{NoMemory}
use Rattle.telgovan_c.specs.Programs.{loaded, refused, shown}
use Rattle.telgovan_c.proofs.programs.load.Goals as goal

-- the program of these bytes is in the handle
pub returns-in-Ok-of : goal.returns-in-Ok-of
returns-in-Ok-of c =
    loaded c.in-Ok.verified (rw c.job.ensures at c.in-Ok.ensures) (ap shown c.of-in-Ok-of.ensures ∙ ap Some c.in-Ok-of.ensures)
    c.accepted_verdict-verdict.ensures

pub returns-in-Ok : goal.returns-in-Ok
returns-in-Ok c = refused NoMemory tt refl c.refused_verdict.ensures

pub returns : goal.returns
returns c = refused c.in-Err.refusal (rw c.job.ensures at c.in-Err.ensures) refl c.refused_verdict-in-Err.ensures
