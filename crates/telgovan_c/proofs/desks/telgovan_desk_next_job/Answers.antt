use Rattle.telgovan_c.proofs.desks.telgovan_desk_next_job.Goals as goal

-- what was taken is what the handle held
pub returns : goal.returns
returns c = rw c.replace-taken.ensures.value at c.next_held-kept.ensures
