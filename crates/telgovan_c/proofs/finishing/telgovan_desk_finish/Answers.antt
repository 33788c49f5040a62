use Rattle.telgovan_c.proofs.finishing.telgovan_desk_finish.Goals as goal

-- what was taken is what the handle held
pub returns : goal.returns
returns c = rw c.replace-taken.ensures.value at c.finish_held-kept.ensures
