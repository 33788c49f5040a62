use Rattle.job_core.proofs.world.World.step.Goals as goal

pub returns-clause-steps : goal.returns-clause-steps
returns-clause-steps c = rw (← c.self.view_is) c.step.ensures.steps
