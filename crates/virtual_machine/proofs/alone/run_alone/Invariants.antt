use Rattle.std.proofs.Common.{◌≡◌, ◌-◌}
use Rattle.task_trees.specs.Solo.{entering}
use Rattle.virtual_machine.specs.Functions.{call_answers}
use Rattle.interpreter.specs.Representation.{at_slot, lent}
use Rattle.virtual_machine.proofs.AloneLemmas.{IsUnderWay}
use Rattle.virtual_machine.proofs.alone.run_alone.Given as goal

abbrev pub invariant-loop-next : goal.invariant-loop-next
invariant-loop-next g l = record {
  way : IsUnderWay l.code (call_answers l.fn.functions.places.items) (entering l.fn.arg l.fn.credit l.fn.bytes) (at_slot l.frame l.slot) (lent l.bytes) l.credit;
  functions : l.functions ≡ l.fn.functions;
}

abbrev pub decreases-loop-next : goal.decreases-loop-next
decreases-loop-next g l = l.credit.held - l.credit.used
