use Rattle.std.proofs.lemmas.Result.{IfOk-weaker, on_err_weaker}
use Rattle.conversation.proofs.clerk.ClerkHandlerUnit.answer.Goals as goal

pub returns-clause-ok : goal.returns-clause-ok
returns-clause-ok c =
    IfOk-weaker c.answer.result _ _ (λ reply is. record { mid = c.prepare.new.self; same = c.prepare.ensures.same; ready = c.prepare.ensures.ready; answered = is }) c.answer.ensures.ok

pub returns-clause-err : goal.returns-clause-err
returns-clause-err c =
    on_err_weaker c.answer.result (λ is. (is.0, record { mid = c.prepare.new.self; same = c.prepare.ensures.same; ready = c.prepare.ensures.ready; answered = is.1 })) c.answer.ensures.err
