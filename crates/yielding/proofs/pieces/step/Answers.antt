use Rattle.std.proofs.Common.{inl, inr}
use Rattle.interpreter.proofs.Stretches.{ran_one}
use Rattle.yielding.proofs.StepLemmas.{stepped}
use Rattle.yielding.proofs.pieces.step.Goals as goal

pub run_on-ran-requires-clause-covered : goal.run_on-ran-requires-clause-covered
run_on-ran-requires-clause-covered c = elim c.requires [ inl at ↦ at.covered | inr call ↦ call.2.covered ]

pub returns-clause-steps : goal.returns-clause-steps
returns-clause-steps c = λ s stands.
    stepped _ _ _ _ _ _ _ _ _ _ c.run_on-ran.result.next c.requires
    (ran_one _ _ _ _ _ _ _ c.run_on-ran.ensures.ran c.run_on-ran.ensures.most) s stands
