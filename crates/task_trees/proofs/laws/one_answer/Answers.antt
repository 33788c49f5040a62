use Rattle.task_trees.proofs.TreeAnswers.{one_answer}
use Rattle.task_trees.proofs.laws.one_answer.Goals as goal

pub returns : goal.returns
returns c = one_answer
