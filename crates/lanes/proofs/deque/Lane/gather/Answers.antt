use Rattle.std.proofs.Common.{rules}
use Rattle.crossbeam_deque.specs.Handles.{worker_view}
use Rattle.lanes.proofs.Moving.{gathers}
use Rattle.lanes.proofs.deque.Lane.gather.Goals as goal

pub absorb-requires-clause-rule : goal.absorb-requires-clause-rule
absorb-requires-clause-rule g c = rw c.args.self.now.owner (gathers g.T.Carried.task (worker_view c.args.self.now.ready) _ _ (search rules))
