use Rattle.std.proofs.Common.{Err, ap, refl}
use Rattle.std.proofs.lemmas.Result.{err_from_is_err_and}
use Rattle.bpfjobs_cli.proofs.GivenUp.{given_up_early}
use Rattle.bpfjobs_cli.proofs.ends.perform_alone.Goals as goal

pub returns-in_err-input-clause-stopped : goal.returns-in_err-input-clause-stopped
returns-in_err-input-clause-stopped g c =
    let stopped = c.in_err-input.ensures.stopped in
    let p = err_from_is_err_and c.from_residual.result c.from_residual.ensures.1 in
    rw p.1 (rw p.2 (
      stopped.0,
      stopped.1,
      given_up_early c.in_err-input.field-0.0 _ _ _ (λ e. c.in_err-input.ensures.no_other (ap (λ f. Err f) e)),
    ))

pub returns-in_err-answer-clause-stopped : goal.returns-in_err-answer-clause-stopped
returns-in_err-answer-clause-stopped g c =
    let p = err_from_is_err_and c.from_residual-in_err-answer.result c.from_residual-in_err-answer.ensures.1 in
    rw p.1 (rw p.2 (c.in_ok-input.input.items, c.in_ok-input.ensures.told, refl))
