use Rattle.std.proofs.Common.{◌≡◌}
use Rattle.task_register.specs.Handing.{ended_with}
use Rattle.task_register.proofs.register.TaskRegister.close.Given as goal

abbrev pub ghosts-close_as : goal.ghosts-close_as
ghosts-close_as g a = record { ends = λ o. o ≡ ended_with a.seat a.outcome.now.value a.whole }
