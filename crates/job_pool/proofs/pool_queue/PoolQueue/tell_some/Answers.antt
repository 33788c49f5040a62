use Rattle.std.proofs.Common.{◌++◌, option_to_list, sym, ap, ◌∙◌}
use Rattle.job_pool.specs.PoolSteps.{job_ended, over_steps}
use Rattle.job_pool.specs.declared.pool_step.PoolStep.TheVariants.{Ended}
use Rattle.job_pool.proofs.PoolParts.{append_nil, one_step}
use Rattle.job_pool.proofs.pool_queue.PoolQueue.tell_some.Goals as goal

pub returns-in-Some-clause-ended : goal.returns-in-Some-clause-ended
returns-in-Some-clause-ended g c =
    ap (λ s. over_steps job_ended s.part) c.tell.ensures
    ∙ (one_step job_ended c.args.seat.now.part (Ended c.in-Some.done) ∙ ap (λ o. over_steps job_ended c.args.seat.now.part ++ option_to_list o) (sym c.in-Some.is))

pub returns-in-None-clause-ended : goal.returns-in-None-clause-ended
returns-in-None-clause-ended g c =
    sym (append_nil (over_steps job_ended c.args.seat.now.part)) ∙ ap (λ o. over_steps job_ended c.args.seat.now.part ++ option_to_list o) (sym c.in-None.is)
