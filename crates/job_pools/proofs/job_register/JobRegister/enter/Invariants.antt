use Rattle.std.proofs.Common.{◌≡◌}
use Rattle.job_pools.proofs.job_register.JobRegister.enter.Given as goal

-- this job, under this number
abbrev pub ghosts-enter_as : goal.ghosts-enter_as
ghosts-enter_as g a = record { enters = λ j. (j.number ≡ a.number) × (j.job ≡ a.job.now) }
