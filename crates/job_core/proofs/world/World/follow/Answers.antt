use Rattle.job_core.proofs.Runs.{behind_led}
use Rattle.job_core.proofs.world.World.follow.Goals as goal

pub invariant_of-self : goal.invariant_of-self
invariant_of-self c =
    let led = behind_led _ _ _ c.self.invariant.0 c.self.invariant.1 c.run.ensures.leads.2 in
    (led.0, led.1, c.run.ensures.booked)
