use Rattle.std.proofs.Common.{option_map}
use Rattle.std.proofs.lemmas.Result.{IfOk-weaker}
use Rattle.bpfrun_core.specs.Drawn.{drawn, refused}
use Rattle.bpfrun_core.proofs.drawing.draw_code.Goals as goal

pub returns-in-Ok : goal.returns-in-Ok
returns-in-Ok c = drawn (option_map (λ text. text.now) c.source_of-source.result) c.in-Ok.picture (rw c.job.ensures at c.in-Ok.ensures) c.status_of.ensures

pub returns : goal.returns
returns c =
    let why = rw c.job.ensures at c.in-Err.ensures in
    IfOk-weaker c.answer_refusal.result _ _ (λ answer p. refused c.in-Err.refusal why.0 why.1 p) c.answer_refusal.ensures
