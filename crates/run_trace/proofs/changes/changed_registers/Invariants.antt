use Rattle.reference.specs.Records.{registers_of}
use Rattle.run_trace.proofs.ChangeLemmas.{AreTold}
use Rattle.run_trace.proofs.changes.changed_registers.Given as goal

abbrev pub invariant-loop-register : goal.invariant-loop-register
invariant-loop-register l = AreTold (registers_of l.before) (registers_of l.after) l.changes.items l.register
