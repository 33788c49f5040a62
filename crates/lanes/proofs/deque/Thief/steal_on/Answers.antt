use Rattle.std.proofs.Common.{rules}
use Rattle.lanes.proofs.Moving.{thief_takes}
use Rattle.lanes.proofs.Telling.{thief_finds_none}
use Rattle.lanes.proofs.deque.Thief.steal_on.Goals as goal

pub steal_as-requires-clause-takes : goal.steal_as-requires-clause-takes
steal_as-requires-clause-takes g c = thief_takes g.T.Carried.task _ _ 1 (search rules)

pub steal_as-requires-clause-empty : goal.steal_as-requires-clause-empty
steal_as-requires-clause-empty g c = rw c.args.self.now.fifo (thief_finds_none g.T.Carried.task _ _ (search rules))
