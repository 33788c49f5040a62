use Rattle.task_trees.proofs.SoloLemmas.{solo_once}
use Rattle.task_trees.proofs.laws.runs_once_alone.Goals as goal

pub returns : goal.returns
returns c = solo_once
