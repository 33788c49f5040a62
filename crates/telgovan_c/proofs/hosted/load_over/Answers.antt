use Rattle.std.proofs.Common.{Some, ap, refl, ◌∙◌}
use Rattle.verifier.specs.declared.refusals.Refusal.TheVariants.{NoMemory}
use Rattle.telgovan_c.specs.Hosted.{loaded, refused}
use Rattle.telgovan_c.specs.Programs.{shown}
use Rattle.telgovan_c.proofs.hosted.load_over.Goals as goal

-- the program of these bytes is in the handle
pub returns-in-Ok-of : goal.returns-in-Ok-of
returns-in-Ok-of c =
    loaded c.in-Ok.verified c.in-Ok.ensures (ap shown c.of-in-Ok-of.ensures ∙ ap Some c.in-Ok-of.ensures) c.accepted_verdict-verdict.ensures

pub returns-in-Err-of : goal.returns-in-Err-of
returns-in-Err-of c = refused NoMemory tt refl c.refused_verdict.ensures

pub returns-in-Err : goal.returns-in-Err
returns-in-Err c = refused c.in-Err.refusal c.in-Err.ensures refl c.refused_verdict-in-Err.ensures
