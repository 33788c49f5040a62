use Rattle.shared_desk.proofs.connections.Connection.open.Goals as goal

pub invariant_of-result : goal.invariant_of-result
invariant_of-result g c = ((_, c.look.ensures.legal), c.look.ensures.own, c.requires.source, c.requires.sink)
