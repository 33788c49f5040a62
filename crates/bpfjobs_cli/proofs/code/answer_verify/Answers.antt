use Rattle.std.proofs.lemmas.Result.{IfOk-weaker}
use Rattle.bpfjobs_cli.specs.Programs.{accepted, refused}
use Rattle.bpfjobs_cli.proofs.code.answer_verify.Goals as goal

pub returns-in-Ok-verify : goal.returns-in-Ok-verify
returns-in-Ok-verify c =
    let verdict = rw (c.deref.ensures.value, c.job.ensures) at c.in-Ok-verify.ensures in
    IfOk-weaker c.answer_cost.result _ _ (λ a p. accepted c.in-Ok.code.items c.in-Ok-verify.program c.in-Ok.ensures.ok verdict (rw c.cost.ensures at p)) c.answer_cost.ensures

pub returns : goal.returns
returns c =
    let why = rw (c.deref.ensures.value, c.job.ensures) at c.in-Err.ensures in
    IfOk-weaker c.answer_refusal-in-Err.result _ _ (λ a p. refused c.in-Ok.code.items c.in-Err.refusal c.in-Ok.ensures.ok why (rw (c.code.ensures, c.place_of.ensures, c.slot.ensures) at p)) c.answer_refusal-in-Err.ensures
