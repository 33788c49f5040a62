use Rattle.machine_model.proofs.Codes.{begins_within}
use Rattle.verifier.proofs.states.slot_at.Goals as goal

pub returns-clause-begins : goal.returns-clause-begins
returns-clause-begins c = rw c.order.ensures.order (c.slots-slots.ensures.flow.order.begins c.args.place c.requires)

pub returns-clause-within : goal.returns-clause-within
returns-clause-within c = rw c.order.ensures.order (begins_within c.args.graph.now.code _ (c.slots-slots.ensures.flow.order.begins c.args.place c.requires))
