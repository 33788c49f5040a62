use Rattle.job_answer.proofs.OneAnswers.{answer_comes, answer_is, answers_agree}
use Rattle.job_answer.proofs.laws.answers_are_one.Goals as goal

pub returns-clause-comes : goal.returns-clause-comes
returns-clause-comes c = λ programs credit buffer report answer. answer_comes programs credit buffer report answer

pub returns-clause-is : goal.returns-clause-is
returns-clause-is c = λ programs credit buffer report fs answer comes. answer_is programs credit buffer report answer fs comes

pub returns-clause-same : goal.returns-clause-same
returns-clause-same c = λ programs credit buffer a b one two. answers_agree programs credit buffer a b one two
