use Rattle.std.proofs.Common.{◌≡◌, ℕ, ◌-◌, length}
use Rattle.virtual_machine.specs.Functions.{function_of}
use Rattle.virtual_machine.proofs.functions.Functions.make_room.Given as goal

abbrev pub invariant-loop-self : goal.invariant-loop-self
invariant-loop-self g l = (id : ℕ) → function_of l.self.places.items id ≡ function_of l.initial.self.places.items id

abbrev pub decreases-loop-self : goal.decreases-loop-self
decreases-loop-self g l = 64 - length l.self.places.items
