use Rattle.telgovan_c.specs.Admitting.{over_limits}
use Rattle.telgovan_c.proofs.admitting.admit_pieces.Goals as goal

pub returns-in-Some : goal.returns-in-Some
returns-in-Some c = record { admitted = tt; refused = over_limits c.in-Some.fault c.in-Some.ensures.some c.refused_report.ensures }
