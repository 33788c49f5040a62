use Rattle.sessions.proofs.Naming.{plain_answer}
use Rattle.sessions.proofs.request.read_request.Goals as goal

pub returns : goal.returns
returns c = plain_answer _ _ c.read_request_by.ensures
