use Rattle.std.proofs.Common.{◌≡◌}
use Rattle.shared_desk.proofs.serving.serve_clients.Given as goal

-- the history is the new one
abbrev pub ghosts-serve_named-J-HistoryId : goal.ghosts-serve_named-J-HistoryId
ghosts-serve_named-J-HistoryId g a = record { table = a.new_history; comes = λ _. Unit {0} }

-- it begins with this desk and this handler
abbrev pub ghosts-serve_named-J-Origin : goal.ghosts-serve_named-J-Origin
ghosts-serve_named-J-Origin g a = record { begins = λ s. s ≡ (a.desk, a.handler) }
