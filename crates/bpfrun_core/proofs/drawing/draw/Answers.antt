use Rattle.std.proofs.lemmas.Result.{IfOk-weaker}
use Rattle.bpfrun_core.specs.Drawn.{read, unread}
use Rattle.bpfrun_core.proofs.drawing.draw.Goals as goal

pub returns-in-Ok : goal.returns-in-Ok
returns-in-Ok c =
    IfOk-weaker c.draw_code.result _ _ (λ answer p. read c.in-Ok.code.items c.in-Ok.ensures.read (rw (c.deref.ensures.value, c.need_of-need.ensures) at p)) c.draw_code.ensures

pub returns-in-Err : goal.returns-in-Err
returns-in-Err c = IfOk-weaker c.print_refusal.result _ _ (λ answer p. unread c.in-Err.fault c.in-Err.ensures.unread p) c.print_refusal.ensures
