use Rattle.task_trees.proofs.RefusalLemmas.{plays_to_answer}
use Rattle.task_trees.proofs.laws.plays_to_answer.Goals as goal

pub returns : goal.returns
returns c = plays_to_answer
