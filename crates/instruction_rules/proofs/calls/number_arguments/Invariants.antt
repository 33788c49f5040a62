use Rattle.std.proofs.Common.{◌≡◌, None}
use Rattle.instruction_rules.specs.States.{number_arguments}
use Rattle.instruction_rules.proofs.calls.number_arguments.Given as goal

abbrev pub invariant-loop-before : goal.invariant-loop-before
invariant-loop-before l = number_arguments l.state l.before ≡ None
