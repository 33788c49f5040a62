use Rattle.std.proofs.Common.{sym, ap, ◌∙◌, add-one}
use Rattle.value_ranges.specs.declared.abs.Abs.{Abs}
use Rattle.instruction_rules.specs.States.{number_fault}
use Rattle.instruction_rules.proofs.ArgumentLemmas.{number_there}
use Rattle.instruction_rules.proofs.calls.number_arguments.Goals as goal

pub returns-in-Some : goal.returns-in-Some
returns-in-Some c = sym (number_there c.args.state.now c.args.arity c.loop-before.before c.in-Some.rule c.loop-before.invariant
    (ap (λ (a : Abs). number_fault a) (sym (rw add-one at c.argument.ensures)) ∙ (sym c.number_fault.ensures ∙ c.in-Some.is))
    c.loop-before-test.true)
