use Rattle.std.proofs.Common.{◌≡◌}
use Rattle.seat_log.proofs.shared_log.SharedLog.add.Given as goal

-- the entry of this item
abbrev pub ghosts-add_as : goal.ghosts-add_as
ghosts-add_as g a = record { picks = λ e. e ≡ g.T.Logged.entry a.item.now }
