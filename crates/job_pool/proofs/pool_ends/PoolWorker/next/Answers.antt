use Rattle.std.proofs.Common.{◌++◌, ap, ◌∙◌, option_to_list}
use Rattle.seat_log.specs.Seated.{SeatPart}
use Rattle.job_pool.specs.PoolSteps.{job_ended, job_taken, over_steps}
use Rattle.job_pool.specs.declared.pool_step.PoolStep.{PoolStep}
use Rattle.job_pool.proofs.SeatParts.{ended_still, taken_some}
use Rattle.job_pool.proofs.pool_ends.PoolWorker.next.Goals as goal

pub returns-clause-ended : goal.returns-clause-ended
returns-clause-ended g c =
    ended_still c.tell_some.new.seat c.take.new.seat c.take.result c.take.ensures
    ∙ (c.tell_some.ensures.ended ∙ ap (λ (s : SeatPart PoolStep). over_steps job_ended s.part ++ option_to_list c.args.done) c.self.view_is)

pub returns-clause-taken : goal.returns-clause-taken
returns-clause-taken g c =
    taken_some c.tell_some.new.seat c.take.new.seat c.take.result c.take.ensures
    ∙ ap (λ l. l ++ option_to_list c.take.result) (c.tell_some.ensures.taken ∙ ap (λ (s : SeatPart PoolStep). over_steps job_taken s.part) c.self.view_is)
