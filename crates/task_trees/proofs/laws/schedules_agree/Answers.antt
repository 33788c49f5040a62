use Rattle.task_trees.proofs.TreeAnswers.{runs_agree}
use Rattle.task_trees.proofs.laws.schedules_agree.Goals as goal

pub returns : goal.returns
returns c = runs_agree
