use Rattle.std.proofs.Common.{◌≡◌}
use Rattle.job_server.specs.Listening.{CameBy}
use Rattle.job_server.proofs.at_once.serve_at_once.Given as goal

-- the history is the new one, of connections that the listener gave
abbrev pub ghosts-serve_named-J-HistoryId : goal.ghosts-serve_named-J-HistoryId
ghosts-serve_named-J-HistoryId g a = record { table = a.new_history; comes = CameBy g.L.Listener.opens g.L.Listener.passage }

-- it begins with this desk and this handler
abbrev pub ghosts-serve_named-J-Origin : goal.ghosts-serve_named-J-Origin
ghosts-serve_named-J-Origin g a = record { begins = λ s. s ≡ (a.desk, a.handler) }

-- it begins with this listener
abbrev pub ghosts-serve_named-J-FirstListener : goal.ghosts-serve_named-J-FirstListener
ghosts-serve_named-J-FirstListener g a = record { is_first = λ l. l ≡ a.listener }
