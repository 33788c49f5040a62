use Rattle.task_trees.proofs.TreeSteps.{kept_step}
use Rattle.task_trees.proofs.laws.steps_keep_answer.Goals as goal

pub returns-clause-forth : goal.returns-clause-forth
returns-clause-forth c = λ programs j k n xs is tiles a. (kept_step programs j k n is tiles).forth xs a

pub returns-clause-back : goal.returns-clause-back
returns-clause-back c = λ programs j k n ys is tiles a. (kept_step programs j k n is tiles).back ys a
