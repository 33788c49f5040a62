use Rattle.task_trees.proofs.SoloRuns.{ran_alone}
use Rattle.task_trees.proofs.laws.each_ran_alone.Goals as goal

pub returns : goal.returns
returns c = ran_alone
