use Rattle.job_server.proofs.ByDoors.{port_grants}
use Rattle.job_server.proofs.ByJournal.{served_with}
use Rattle.job_server.proofs.serving.serve_port.Goals as goal

pub returns : goal.returns
returns g c = served_with _ _ _ _ _ _ _ _ _ _ _ _ _ _ (port_grants _) c.serve_listener.ensures
