use Rattle.std.proofs.Common.{sym, ap, ◌∙◌, add-one}
use Rattle.value_ranges.specs.declared.abs.Abs.{Abs}
use Rattle.instruction_rules.specs.States.{unset_fault}
use Rattle.instruction_rules.proofs.ArgumentLemmas.{unset_there}
use Rattle.instruction_rules.proofs.calls.unset_arguments.Goals as goal

pub returns-in-Some : goal.returns-in-Some
returns-in-Some c = sym (unset_there c.args.state.now c.args.arity c.loop-before.before c.in-Some.rule c.loop-before.invariant
    (ap (λ (a : Abs). unset_fault a) (sym (rw add-one at c.argument.ensures)) ∙ (sym c.unset_fault.ensures.fault ∙ c.in-Some.is))
    c.loop-before-test.true)
