use Rattle.telgovan_c.proofs.programs.telgovan_program_burst.Goals as goal

-- what was taken is what the handle held
pub returns-clause-runs : goal.returns-clause-runs
returns-clause-runs c = rw c.replace-taken.ensures.value at c.run_held_all-kept.ensures.runs
