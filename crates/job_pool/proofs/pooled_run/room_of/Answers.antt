use Rattle.std.proofs.Common.{◌∙◌, ◌++◌, ◌∷◌, [], ap}
use Rattle.job_pool.proofs.pooled_run.room_of.Goals as goal

pub returns-in-Ok : goal.returns-in-Ok
returns-in-Ok g c = c.in-Ok.ensures.items ∙ ap (λ l. l ++ c.args.end ∷ []) c.new-room.ensures
