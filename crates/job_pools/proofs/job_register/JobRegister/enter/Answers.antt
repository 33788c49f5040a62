use Rattle.std.proofs.Common.{refl}
use Rattle.job_pools.proofs.job_register.JobRegister.enter.Goals as goal

pub enter_as-requires : goal.enter_as-requires
enter_as-requires g c = record { free = (record { number = c.args.number; job = c.args.job.now }, (refl, refl), c.requires.free) }
