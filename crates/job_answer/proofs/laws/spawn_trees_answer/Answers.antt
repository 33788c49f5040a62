use Rattle.job_answer.proofs.Answering.{family_answers}
use Rattle.job_answer.proofs.laws.spawn_trees_answer.Goals as goal

pub returns : goal.returns
returns c = λ programs credit buffer parents tasks ended family none order.
    family_answers programs credit buffer parents tasks ended family none order
