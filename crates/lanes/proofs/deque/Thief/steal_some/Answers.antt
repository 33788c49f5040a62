use Rattle.std.proofs.Common.{rules}
use Rattle.crossbeam_deque.specs.Handles.{worker_view}
use Rattle.lanes.proofs.Moving.{takes_batch, pushes}
use Rattle.lanes.proofs.Telling.{thief_finds_none}
use Rattle.lanes.proofs.deque.Thief.steal_some.Goals as goal

pub steal_batch_and_pop_as-requires-clause-takes : goal.steal_batch_and_pop_as-requires-clause-takes
steal_batch_and_pop_as-requires-clause-takes g c = takes_batch g.T.Carried.task _ _ 8 (search rules)

pub steal_batch_and_pop_as-requires-clause-empty : goal.steal_batch_and_pop_as-requires-clause-empty
steal_batch_and_pop_as-requires-clause-empty g c = rw c.args.self.now.fifo (thief_finds_none g.T.Carried.task _ _ (search rules))

pub steal_batch_and_pop_as-requires-clause-pushes : goal.steal_batch_and_pop_as-requires-clause-pushes
steal_batch_and_pop_as-requires-clause-pushes g c = λ x xs w left. rw (c.args.own.now.owner, c.args.self.now.fifo, c.args.own.now.fifo) (pushes g.T.Carried.task (worker_view c.args.own.now.ready) xs)
