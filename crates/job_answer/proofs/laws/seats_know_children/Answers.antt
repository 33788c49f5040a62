use Rattle.job_answer.proofs.ChildrenLemmas.{has_borne}
use Rattle.job_answer.proofs.laws.seats_know_children.Goals as goal

pub returns : goal.returns
returns g c = λ own bears base old new asked through. has_borne own _ bears base old new asked through
