use Rattle.telgovan_c.proofs.tasks.telgovan_task_go.Goals as goal

-- what was taken is what the handle held
pub returns-clause-gone : goal.returns-clause-gone
returns-clause-gone c = rw c.replace-taken.ensures.value at c.go_held-kept.ensures
