use Rattle.telgovan_c.proofs.tasks.telgovan_task_start.Goals as goal

-- what was taken is what the handle held
pub returns-clause-begun : goal.returns-clause-begun
returns-clause-begun c = rw c.replace-taken.ensures.value at c.start_held-kept.ensures.begun
