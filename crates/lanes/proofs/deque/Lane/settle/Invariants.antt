use Rattle.std.proofs.Common.{◌≡◌, ◌++◌, All, length, map}
use Rattle.crossbeam_deque.specs.Handles.{worker_deque, worker_index}
use Rattle.lanes.specs.Passes.{moves, moves_of, IsGuestOf, IsOwner}
use Rattle.lanes.proofs.deque.Lane.settle.Given as goal

abbrev pub invariant-loop-thief : goal.invariant-loop-thief
invariant-loop-thief g l = record {
  owner : IsOwner l.self l.pass;
  same : worker_deque l.self.ready ≡ worker_deque l.fn.self.ready;
  place : worker_index l.self.ready ≡ worker_index l.fn.self.ready;
  guests : All (λ p. IsGuestOf l.fn.self p) l.thieves.items;
  pushed : (moves_of l.pass).pushed ≡ (moves_of l.fn.pass).pushed;
  taken : (moves_of l.pass).taken ≡ (moves_of l.fn.pass).taken;
  made : (moves_of l.pass).thieves ≡ (moves_of l.fn.pass).thieves;
  gathered : map (λ p. (moves p).taken) l.thieves.items ++ (moves_of l.pass).gathered
      ≡ map (λ p. (moves p).taken) l.fn.thieves.items ++ (moves_of l.fn.pass).gathered;
}

abbrev pub decreases-loop-thief : goal.decreases-loop-thief
decreases-loop-thief g l = length l.thieves.items
