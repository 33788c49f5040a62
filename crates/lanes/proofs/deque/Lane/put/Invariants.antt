use Rattle.crossbeam_deque.specs.Handles.{worker_capacity}
use Rattle.lanes.proofs.deque.Lane.put.Given as goal

abbrev pub ghosts-put_within : goal.ghosts-put_within
ghosts-put_within g a = record { slots = worker_capacity a.self.now.ready }
