use Rattle.machine_model.proofs.Keeps.{credit_of-run}
use Rattle.machine_model.proofs.laws.conserves_credit.Goals as goal

pub returns : goal.returns
returns c = credit_of-run
