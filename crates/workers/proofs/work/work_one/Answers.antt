use Rattle.workers.proofs.work.work_one.Goals as goal

pub returns-clause-outcome : goal.returns-clause-outcome
returns-clause-outcome g c = (c.work_observed-outcome.result.whole, c.work_observed-outcome.ensures.outcome)
