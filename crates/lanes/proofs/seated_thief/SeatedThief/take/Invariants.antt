use Rattle.std.proofs.Common.{◌≡◌, ◌⊎◌, ◌+◌, ◌≤◌}
use Rattle.crossbeam_deque.specs.Handles.{worker_deque, worker_view}
use Rattle.lanes.specs.Interleaving.{ThiefFoundNone}
use Rattle.lanes.proofs.seated_thief.SeatedThief.take.Given as goal

abbrev pub invariant-loop : goal.invariant-loop
invariant-loop g l = record {
  lane : l.self.lane ≡ l.fn.self.lane;
  moved : l.self.moved ≡ l.fn.self.moved;
  own : worker_view l.own.ready ≡ worker_view l.fn.own.ready;
  same : worker_deque l.own.ready ≡ worker_deque l.fn.own.ready;
  gone : ThiefFoundNone g.T.Carried.task l.fn.self.moved ⊎ (l.fn.self.gone + l.counter ≤ l.self.gone);
}
