use Rattle.crossbeam_deque.specs.Handles.{worker_view}
use Rattle.lanes.proofs.Telling.{looks}
use Rattle.lanes.proofs.deque.Lane.count.Goals as goal

pub len_as-count-requires : goal.len_as-count-requires
len_as-count-requires g c = rw c.args.self.now.owner (looks g.T.Carried.task (worker_view c.args.self.now.ready))
