use Rattle.telgovan_c.proofs.desks.telgovan_desk_replies.Goals as goal

-- what was taken is what the handle held
pub returns : goal.returns
returns c = rw c.replace-taken.ensures.value at c.replies_held-kept.ensures
