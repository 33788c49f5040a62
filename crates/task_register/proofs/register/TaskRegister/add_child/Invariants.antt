use Rattle.std.proofs.Common.{◌≡◌}
use Rattle.task_register.specs.Handing.{start_by}
use Rattle.task_register.proofs.register.TaskRegister.add_child.Given as goal

abbrev pub ghosts-add_child_as : goal.ghosts-add_child_as
ghosts-add_child_as g a = record { enters = λ b. b ≡ start_by a.parent.number a.child.now }
