use Rattle.std.proofs.Common.{◌≡◌, ◌≤◌, ◌<◌, ◌+◌, ◌-◌, ℕ, length, drop}
use Rattle.journal.specs.Records.{IsTorn}
use Rattle.journal.specs.Tails.{search_cost}
use Rattle.journal.proofs.inspection.inspect_tail.Given as goal

-- no record stands at the places so far, and what these cost has left the budget
abbrev pub invariant-loop-rest : goal.invariant-loop-rest
invariant-loop-rest l = record {
  within : length l.rest ≤ length l.tail;
  at : l.rest ≡ drop (length l.tail - length l.rest) l.tail;
  torn : (place : ℕ) → place < length l.tail - length l.rest → IsTorn (drop place l.tail);
  cost : l.fn.budget + search_cost l.rest ≡ l.left + search_cost l.tail;
}

abbrev pub decreases-loop-rest : goal.decreases-loop-rest
decreases-loop-rest l = length l.rest
