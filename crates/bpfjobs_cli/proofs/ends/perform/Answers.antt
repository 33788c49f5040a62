use Rattle.bpfjobs_cli.proofs.GivenUp.{given_up_late}
use Rattle.bpfjobs_cli.proofs.ends.perform.Goals as goal

pub returns-in-Err-clause-stopped : goal.returns-in-Err-clause-stopped
returns-in-Err-clause-stopped g c =
    let answers = rw c.deref.ensures.value at c.in_ok-answer-in-Run.ensures in
    rw c.in-Run.is (
      c.in_ok-input-in-Run.input.items,
      c.in_ok-input-in-Run.ensures.told,
      given_up_late c.in-Err.fault _ _ _ _ c.in_ok-answer-in-Run.answer.text.items c.in_ok-answer-in-Run.answer.status c.in_ok-answer-in-Run.answer.code c.in_ok-input-in-Run.ensures.over answers c.in-Err.ensures.err,
    )
