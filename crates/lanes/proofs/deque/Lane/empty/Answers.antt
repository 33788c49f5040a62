use Rattle.lanes.proofs.Moving.{begins}
use Rattle.lanes.proofs.deque.Lane.empty.Goals as goal

pub fifo_as-requires : goal.fifo_as-requires
fifo_as-requires g c = begins g.T.Carried.task
