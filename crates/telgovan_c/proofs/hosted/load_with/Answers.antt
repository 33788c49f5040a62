use Rattle.telgovan_c.specs.Hosted.{told}
use Rattle.telgovan_c.proofs.hosted.load_with.Goals as goal

pub returns-in-Ok : goal.returns-in-Ok
returns-in-Ok c = told c.in-Ok.ensures.0 c.in-Ok.ensures.1 c.in-Ok.helpers.table c.in-Ok.ensures.2 c.load_over.ensures
