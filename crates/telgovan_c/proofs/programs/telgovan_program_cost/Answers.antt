use Rattle.telgovan_c.proofs.programs.telgovan_program_cost.Goals as goal

-- what was taken is what the handle held
pub returns-clause-cost : goal.returns-clause-cost
returns-clause-cost c = rw c.replace-taken.ensures.value at c.cost_held-kept.ensures.cost
