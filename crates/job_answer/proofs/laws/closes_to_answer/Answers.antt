use Rattle.job_answer.proofs.Closing.{closes}
use Rattle.job_answer.proofs.laws.closes_to_answer.Goals as goal

pub returns : goal.returns
returns c = λ programs job credit buffer report closed all_ran. closes programs job credit buffer report closed all_ran
