use Rattle.std.proofs.Common.{refl}
use Rattle.telgovan_c.specs.Jobs.{over_limits}
use Rattle.telgovan_c.proofs.jobs.play_pieces.Goals as goal

pub returns-in-Some : goal.returns-in-Some
returns-in-Some c = over_limits c.in-Some.fault c.in-Some.ensures.some refl refl c.refused_report.ensures
