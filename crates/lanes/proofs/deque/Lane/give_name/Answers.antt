use Rattle.std.proofs.Common.{rules}
use Rattle.crossbeam_deque.specs.Handles.{worker_view}
use Rattle.lanes.proofs.Moving.{gathers, names}
use Rattle.lanes.proofs.deque.Lane.give_name.Goals as goal

pub another-seat-requires : goal.another-seat-requires
another-seat-requires g c = rw c.args.self.now.owner (names g.T.Carried.task g.N.LaneName.lane (worker_view c.args.self.now.ready) (search rules))

pub absorb-requires-clause-rule : goal.absorb-requires-clause-rule
absorb-requires-clause-rule g c = rw (c.another-seat.ensures.same.0.2, c.args.self.now.owner) (gathers g.T.Carried.task _ _ _ (search rules))
