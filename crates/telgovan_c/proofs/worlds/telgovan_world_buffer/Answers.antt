use Rattle.telgovan_c.proofs.worlds.telgovan_world_buffer.Goals as goal

-- what was taken is what the handle held
pub returns-clause-told : goal.returns-clause-told
returns-clause-told c = rw c.replace-taken.ensures.value at c.buffer_held-kept.ensures.told

pub returns-clause-same : goal.returns-clause-same
returns-clause-same c = rw c.replace-taken.ensures.value at c.buffer_held-kept.ensures.same
