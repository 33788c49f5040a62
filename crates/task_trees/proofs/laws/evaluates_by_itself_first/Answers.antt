use Rattle.task_trees.proofs.EvalBySolo.{eval_by_solo, eval_of_solo}
use Rattle.task_trees.proofs.laws.evaluates_by_itself_first.Goals as goal

pub returns : goal.returns
returns c = λ programs t bytes fs size. (eval_by_solo programs t bytes fs size, eval_of_solo programs t bytes fs size)
