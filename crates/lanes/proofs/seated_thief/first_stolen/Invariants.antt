use Rattle.std.proofs.Common.{◌≡◌}
use Rattle.crossbeam_deque.specs.Handles.{worker_deque, worker_view}
use Rattle.lanes.specs.Sharing.{FirstGaveNone}
use Rattle.lanes.proofs.seated_thief.first_stolen.Given as goal

abbrev pub invariant-loop-place : goal.invariant-loop-place
invariant-loop-place g l = record {
  tried : FirstGaveNone g.T.Carried.task 100 l.place l.fn.ways.items l.ways.items;
  own : worker_view l.own.ready ≡ worker_view l.fn.own.ready;
  same : worker_deque l.own.ready ≡ worker_deque l.fn.own.ready;
}
