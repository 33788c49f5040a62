use Rattle.interpreter.proofs.Stretches.{ran_one}
use Rattle.yielding.proofs.StepLemmas.{never_ends, was_answered}
use Rattle.yielding.proofs.pieces.answer_call.Goals as goal

pub run_on-ran-requires-clause-covered : goal.run_on-ran-requires-clause-covered
run_on-ran-requires-clause-covered c = c.requires.2.covered

pub returns-clause-answers : goal.returns-clause-answers
returns-clause-answers c = λ s stands.
    was_answered _ _ _ _ _ _ _ _ _ c.args.answer c.requires.0 c.requires.1 c.requires.2
    (rw c.in-At.is at (ran_one _ _ _ _ _ _ _ c.run_on-ran.ensures.ran c.run_on-ran.ensures.most)) s stands

pub returns-clause-covered : goal.returns-clause-covered
returns-clause-covered c = c.run_on-ran.ensures.covered c.in-At.next c.in-At.is

pub unreachable-requires : goal.unreachable-requires
unreachable-requires c =
    never_ends _ _ _ _ _ _ _ _ _ c.args.answer c.requires.0 c.in-Ended.field-0 c.requires.1 c.requires.2
    (rw c.in-Ended.is at (ran_one _ _ _ _ _ _ _ c.run_on-ran.ensures.ran c.run_on-ran.ensures.most))
