use Rattle.durable_replies.proofs.Told.{told_durably}
use Rattle.durable_replies.proofs.laws.told_is_durable.Goals as goal

pub returns : goal.returns
returns g c queue name desk journal notes written last v gone = told_durably g.H.SharedHandler.answers g.J.Origin.begins name desk queue journal notes written last v gone
