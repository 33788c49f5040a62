use Rattle.std.proofs.lemmas.Result.{IfOk-weaker}
use Rattle.bpfjobs_cli.specs.Jobs.{played, no_memory, no_job}
use Rattle.bpfjobs_cli.proofs.job.answer_play.Goals as goal

pub returns-in-Err : goal.returns-in-Err
returns-in-Err c = IfOk-weaker c.answer.result _ _ (λ a p. no_job c.in-Err.why c.in-Err.ensures.err p) c.answer.ensures

pub returns-in-Ok-play : goal.returns-in-Ok-play
returns-in-Ok-play c =
    let plays = rw c.deref.ensures.value at c.in-Ok-play.ensures in
    IfOk-weaker c.answer_world.result _ _ (λ a tells. played c.in-Ok.order.0 c.in-Ok.order.1.items c.in-Ok-play.world c.in-Ok.ensures.ok plays (tells plays.plays.last plays.plays.behind)) c.answer_world.ensures

pub returns : goal.returns
returns c = IfOk-weaker c.answer_failure.result _ _ (λ a p. no_memory c.in-Ok.order.0 c.in-Ok.order.1.items c.in-Ok.ensures.ok p) c.answer_failure.ensures
