use Rattle.bpfrun_core.specs.Answered.{all_explained}
use Rattle.bpfrun_core.proofs.answering.answer_refusal.Goals as goal

pub returns-in-Some : goal.returns-in-Some
returns-in-Some c =
    let why = rw c.in-Some.is at c.in_ok-answer.ensures in
    all_explained c.if-asked.true why.0 why.1
