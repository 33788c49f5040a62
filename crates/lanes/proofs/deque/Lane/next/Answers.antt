use Rattle.crossbeam_deque.specs.Handles.{worker_view}
use Rattle.lanes.proofs.Moving.{owner_takes}
use Rattle.lanes.proofs.Telling.{finds_none}
use Rattle.lanes.proofs.deque.Lane.next.Goals as goal

pub pop_as-requires-clause-fifo : goal.pop_as-requires-clause-fifo
pop_as-requires-clause-fifo g c = λ _. rw c.args.self.now.owner (owner_takes g.T.Carried.task (worker_view c.args.self.now.ready) 1)

pub pop_as-requires-clause-empty : goal.pop_as-requires-clause-empty
pop_as-requires-clause-empty g c = rw c.args.self.now.owner (finds_none g.T.Carried.task (worker_view c.args.self.now.ready))
