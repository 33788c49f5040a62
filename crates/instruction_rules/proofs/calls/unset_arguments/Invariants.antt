use Rattle.std.proofs.Common.{◌≡◌, None}
use Rattle.instruction_rules.specs.States.{unset_arguments}
use Rattle.instruction_rules.proofs.calls.unset_arguments.Given as goal

abbrev pub invariant-loop-before : goal.invariant-loop-before
invariant-loop-before l = unset_arguments l.state l.before ≡ None
