use Rattle.std.proofs.Common.{◌-◌}
use Rattle.machine_model.specs.Alone.{alone}
use Rattle.reference.specs.Records.{program_of, state_of}
use Rattle.reference.proofs.AloneLemmas.{Leads}
use Rattle.reference.proofs.alone.run_alone.Given as goal

abbrev pub invariant-loop : goal.invariant-loop
invariant-loop g l =
    Leads (program_of l.program) (λ id arguments answer. goal.F-post g l.helper id arguments answer) l.steps (alone l.credit l.fn.part.items)
    (l.steps - l.counter) (state_of l.state)
