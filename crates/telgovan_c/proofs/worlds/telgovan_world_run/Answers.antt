use Rattle.telgovan_c.proofs.worlds.telgovan_world_run.Goals as goal

-- what was taken is what the handle held
pub returns-clause-run : goal.returns-clause-run
returns-clause-run c = rw c.replace-taken.ensures.value at c.run_held-kept.ensures
