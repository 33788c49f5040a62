use Rattle.std.proofs.Common.{◌∷◌, []}
use Rattle.crossbeam_deque.specs.Handles.{worker_view, worker_capacity}
use Rattle.lanes.proofs.Moving.{pushes}
use Rattle.lanes.proofs.Telling.{is_full}
use Rattle.lanes.proofs.deque.Lane.put_within.Goals as goal

pub push_as-requires-clause-pushes : goal.push_as-requires-clause-pushes
push_as-requires-clause-pushes g c = rw c.args.self.now.owner (pushes g.T.Carried.task (worker_view c.args.self.now.ready) (c.args.ticket ∷ []))

pub push_as-requires-clause-full : goal.push_as-requires-clause-full
push_as-requires-clause-full g c = rw (c.requires, c.args.self.now.owner) (is_full g.T.Carried.task (worker_capacity c.args.self.now.ready) (worker_view c.args.self.now.ready))
