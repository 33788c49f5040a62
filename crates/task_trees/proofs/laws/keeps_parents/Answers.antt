use Rattle.task_trees.proofs.FamilyLemmas.{grown_step, starts}
use Rattle.task_trees.proofs.laws.keeps_parents.Goals as goal

pub returns-clause-start : goal.returns-clause-start
returns-clause-start c = starts

pub returns-clause-step : goal.returns-clause-step
returns-clause-step c = grown_step
