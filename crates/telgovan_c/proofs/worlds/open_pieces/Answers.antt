use Rattle.std.proofs.Common.{refl}
use Rattle.telgovan_c.specs.Worlds.{admitted, refused}
use Rattle.telgovan_c.proofs.worlds.open_pieces.Goals as goal

pub returns-in-Ok : goal.returns-in-Ok
returns-in-Ok c = admitted c.in-Ok.found.programs.items c.in-Ok.found.job c.in-Ok.ensures.admitted c.open_job.ensures

pub returns-in-Err : goal.returns-in-Err
returns-in-Err c = refused c.in-Err.ensures.refused refl
