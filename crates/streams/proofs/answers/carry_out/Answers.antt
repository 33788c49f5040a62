use Rattle.std.proofs.Common.{refl, rules}
use Rattle.streams.proofs.Answered.{framed_as}
use Rattle.streams.proofs.EachForm.{to_grant, to_account, to_submit, to_status, to_result}
use Rattle.streams.proofs.answers.carry_out.Goals as goal

pub returns-in-Grant-clause-done : goal.returns-in-Grant-clause-done
returns-in-Grant-clause-done g c = framed_as c.answer_grant.result _ _
    (λ told h. to_grant g.N.Runner.starts g.N.Runner.looks _ _ _ _ c.args.request told c.in-Grant.tenant c.in-Grant.amount _ c.in-Grant.is (search rules) refl h)
    c.answer_grant.ensures

pub returns-in-Account-clause-done : goal.returns-in-Account-clause-done
returns-in-Account-clause-done g c = framed_as c.answer_account.result _ _
    (λ told h. to_account g.N.Runner.starts g.N.Runner.looks _ _ _ _ c.args.request told c.in-Account.tenant _ c.in-Account.is (search rules) refl refl h)
    c.answer_account.ensures

pub returns-in-Submit-clause-done : goal.returns-in-Submit-clause-done
returns-in-Submit-clause-done g c = framed_as c.answer_submit.result.1 _ _
    (λ told h. to_submit g.N.Runner.starts g.N.Runner.looks _ _ _ _ c.args.request told c.in-Submit.tenant c.in-Submit.programs c.in-Submit.credit c.in-Submit.buffer _ _
    c.in-Submit.is (search rules) (search rules) h)
    c.answer_submit.ensures.done

pub returns-in-Status-clause-done : goal.returns-in-Status-clause-done
returns-in-Status-clause-done g c = framed_as c.answer_status.result _ _
    (λ told h. to_status g.N.Runner.starts g.N.Runner.looks _ _ _ _ c.args.request told c.in-Status.job c.in-Status.is refl h)
    c.answer_status.ensures.done

pub returns-in-Result-clause-done : goal.returns-in-Result-clause-done
returns-in-Result-clause-done g c = framed_as c.answer_result.result _ _
    (λ told h. to_result g.N.Runner.starts g.N.Runner.looks _ _ _ _ c.args.request told c.in-Result.job c.in-Result.is c.answer_result.ensures.same refl h)
    c.answer_result.ensures.told
