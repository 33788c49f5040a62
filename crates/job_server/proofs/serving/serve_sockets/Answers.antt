use Rattle.job_server.proofs.ByDoors.{sockets_grant}
use Rattle.job_server.proofs.ByJournal.{served_with}
use Rattle.job_server.proofs.serving.serve_sockets.Goals as goal

pub returns : goal.returns
returns g c = served_with _ _ _ _ _ _ _ _ _ _ _ _ _ _ (sockets_grant _) c.serve_listener.ensures
