use Rattle.std.proofs.Common.{◌≡◌, refl, rules, Some}
use Rattle.telgovan_c.specs.Worlds.{no_memory, opened, world_in}
use Rattle.telgovan_c.proofs.worlds.open_job.Goals as goal

pub returns-in_default : goal.returns-in_default
returns-in_default c = no_memory refl c.refused_report.ensures

pub returns-in-Ok-new : goal.returns-in-Ok-new
returns-in-Ok-new c =
    let new : world_in c.sendable.result ≡ Some c.in-Ok.opened = search rules in
    opened c.in-Ok.opened new c.in-Ok.ensures.start c.in-Ok.ensures.programs c.opened_report.ensures

pub returns : goal.returns
returns c = no_memory refl c.refused_report-in-Err.ensures
