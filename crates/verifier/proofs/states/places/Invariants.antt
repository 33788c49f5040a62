use Rattle.std.proofs.Common.{◌≡◌, ◌≤◌, ◌-◌, ◌∷◌, replicate, Some, None, vec_capacity}
use Rattle.instruction_rules.specs.States.{entry_state}
use Rattle.verifier.proofs.states.places.Given as goal

abbrev pub invariant-loop-slot : goal.invariant-loop-slot
invariant-loop-slot l = record {
  items : l.states.items ≡ Some (entry_state l.need) ∷ replicate (l.slot - 1) None;
  room : l.slots ≤ vec_capacity l.states;
}
