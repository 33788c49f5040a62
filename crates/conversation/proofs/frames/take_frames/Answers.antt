use Rattle.streams.specs.Serves.{none_yet}
use Rattle.streams.specs.Stops.{between}
use Rattle.conversation.proofs.frames.take_frames.Goals as goal

pub returns-in-Ok-clause-served : goal.returns-in-Ok-clause-served
returns-in-Ok-clause-served g c = rw (← c.in-Ok.ensures.taken.1) c.answer_frames.ensures.served

pub returns-in-Ok-clause-ended : goal.returns-in-Ok-clause-ended
returns-in-Ok-clause-ended g c well = rw (← c.in-Ok.ensures.taken.1) c.answer_frames.ensures.ended

pub returns-in-Err-clause-ended : goal.returns-in-Err-clause-ended
returns-in-Err-clause-ended g c well = between 0 _ _ _ none_yet
