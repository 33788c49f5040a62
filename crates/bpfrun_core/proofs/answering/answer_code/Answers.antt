use Rattle.std.proofs.lemmas.Result.{IfOk-weaker}
use Rattle.bpfrun_core.specs.Answered.{ran, rejected, stopped}
use Rattle.bpfrun_core.proofs.answering.answer_code.Goals as goal

pub returns-in-Ok : goal.returns-in-Ok
returns-in-Ok c = IfOk-weaker c.tell_run.result _ _ (λ a p. ran c.in-Ok.done.r0 c.in-Ok.done.used a.code c.in-Ok.ensures (rw c.if-is_shown.true p)) c.tell_run.ensures

pub returns-in-Ok-2 : goal.returns-in-Ok-2
returns-in-Ok-2 c = IfOk-weaker c.tell_run-in-Ok-2.result _ _ (λ a p. ran c.in-Ok.done.r0 c.in-Ok.done.used a.code c.in-Ok.ensures (rw c.if-is_shown.false p)) c.tell_run-in-Ok-2.ensures

pub returns-in-Err-Program : goal.returns-in-Err-Program
returns-in-Err-Program c =
    let why = rw c.in-Err-Program.field-0-is at c.in-Err-Program.ensures in
    IfOk-weaker c.answer_refusal.result _ _ (λ a p. rejected c.in-Err-Program.refusal why.0 why.1 p) c.answer_refusal.ensures

pub returns-in-Err : goal.returns-in-Err
returns-in-Err c = IfOk-weaker c.print_refusal.result _ _ (λ a p. stopped c.in-Err.fault c.in-Err.ensures.0 c.in-Err.ensures.1 p) c.print_refusal.ensures
