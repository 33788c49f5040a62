use Rattle.task_trees.proofs.EvalLemmas.{eval_once}
use Rattle.task_trees.proofs.laws.evaluates_once.Goals as goal

pub returns : goal.returns
returns c = eval_once
