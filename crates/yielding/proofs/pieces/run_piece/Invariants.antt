use Rattle.std.proofs.Common.{◌≡◌, ◌+◌, ◌-◌, ◌≤◌, length}
use Rattle.machine_model.specs.Machine.{State}
use Rattle.interpreter.specs.Representation.{IsCovered, RepresentsState, at_slot, lent}
use Rattle.yielding.proofs.PieceLemmas.{IsLed}
use Rattle.yielding.proofs.pieces.run_piece.Given as goal

abbrev pub invariant-stretches : goal.invariant-stretches
invariant-stretches l = record {
  within : l.left ≤ l.limit;
  covered : IsCovered l.code (at_slot l.frame l.slot) (lent l.memory) l.credit;
  led : (s : State) → RepresentsState l.code (at_slot l.fn.frame l.fn.slot) (lent l.fn.memory) l.fn.credit s →
      IsLed l.code (l.limit - l.left) s (at_slot l.frame l.slot) (lent l.memory) l.credit;
  size : length l.memory ≡ length l.fn.memory;
  spends : l.fn.credit.used + (l.limit - l.left) ≤ l.credit.used;
  holds : l.credit.held ≤ l.fn.credit.held;
}

abbrev pub decreases-stretches : goal.decreases-stretches
decreases-stretches l = l.left
