use Rattle.std.proofs.Common.{◌≡◌}
use Rattle.job_pools.proofs.turn_history.QueueHistory.add.Given as goal

-- this step
abbrev pub ghosts-add_as : goal.ghosts-add_as
ghosts-add_as g a = record { allows = λ e. (e.is_put ≡ a.is_put) × (e.flow ≡ a.flow) × (e.job ≡ g.T.OfJob.job a.item.now.value) }
