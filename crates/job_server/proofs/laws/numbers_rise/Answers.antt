use Rattle.job_server.proofs.FromSubmit.{host_rises}
use Rattle.job_server.proofs.laws.numbers_rise.Goals as goal

pub returns : goal.returns
returns c = host_rises
