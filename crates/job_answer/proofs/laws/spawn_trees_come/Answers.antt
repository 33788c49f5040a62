use Rattle.job_answer.proofs.Folding.{family_comes}
use Rattle.job_answer.proofs.laws.spawn_trees_come.Goals as goal

pub returns : goal.returns
returns c = λ programs credit buffer parents tasks family none. family_comes programs credit buffer parents tasks family none
