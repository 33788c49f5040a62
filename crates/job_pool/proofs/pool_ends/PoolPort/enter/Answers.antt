use Rattle.std.proofs.Common.{◌∙◌, ap}
use Rattle.seat_log.specs.Seated.{SeatPart}
use Rattle.job_pool.specs.SeatSteps.{with_step}
use Rattle.job_pool.specs.declared.pool_step.PoolStep.{PoolStep}
use Rattle.job_pool.specs.declared.pool_step.PoolStep.TheVariants.{Started}
use Rattle.job_pool.proofs.pool_ends.PoolPort.enter.Goals as goal

pub returns : goal.returns
returns g c = c.enter.ensures ∙ ap (λ (s : SeatPart PoolStep). with_step s (Started c.args.started)) c.self.view_is
