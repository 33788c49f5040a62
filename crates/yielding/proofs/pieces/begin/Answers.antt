use Rattle.yielding.proofs.pieces.begin.Goals as goal

pub returns-then-waits-clause-begins : goal.returns-then-waits-clause-begins
returns-then-waits-clause-begins c = rw c.if-waits.true c.answer_call.ensures.answers
