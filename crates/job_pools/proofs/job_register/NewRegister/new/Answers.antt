use Rattle.job_pools.proofs.JobSteps.{begins}
use Rattle.job_pools.proofs.job_register.NewRegister.new.Goals as goal

pub of_words-requires : goal.of_words-requires
of_words-requires c = begins
