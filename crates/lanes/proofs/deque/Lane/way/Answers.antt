use Rattle.crossbeam_deque.specs.Handles.{worker_view}
use Rattle.lanes.proofs.Moving.{hires}
use Rattle.lanes.proofs.deque.Lane.way.Goals as goal

pub another-seat-requires : goal.another-seat-requires
another-seat-requires g c = rw c.args.self.now.owner (hires g.T.Carried.task (worker_view c.args.self.now.ready))
