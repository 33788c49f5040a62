use Rattle.job_answer.proofs.OneAnswers.{closes_whole}
use Rattle.job_answer.proofs.laws.closes_to_whole_answer.Goals as goal

pub returns : goal.returns
returns c = λ programs job credit buffer report closed. closes_whole programs job credit buffer report closed
