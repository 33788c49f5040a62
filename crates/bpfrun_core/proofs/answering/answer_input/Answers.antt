use Rattle.std.proofs.Common.{refl}
use Rattle.std.proofs.lemmas.Result.{IfOk-weaker}
use Rattle.bpfrun_core.specs.Answered.{judged, unread}
use Rattle.bpfrun_core.proofs.answering.answer_input.Goals as goal

pub returns-in-Ok : goal.returns-in-Ok
returns-in-Ok c = IfOk-weaker c.answer_code.result _ _ (λ a p. judged c.in-Ok.code.items c.in-Ok.ensures.read (rw c.deref.ensures.value at p)) c.answer_code.ensures

pub returns-in-Err : goal.returns-in-Err
returns-in-Err c = IfOk-weaker c.print_refusal.result _ _ (λ a p. unread c.in-Err.fault c.in-Err.ensures.unread refl p) c.print_refusal.ensures
