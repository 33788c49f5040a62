use Rattle.telgovan_c.proofs.desks.telgovan_desk_connect.Goals as goal

-- what was taken is what the handle held
pub returns : goal.returns
returns c = rw c.replace-taken.ensures.value at c.connect_held-kept.ensures
