use Rattle.std.proofs.Common.{◌++◌, ap, ◌∙◌}
use Rattle.std.proofs.lemmas.Result.{on_ok_weaker}
use Rattle.sessions.proofs.ResultLemmas.{outcome_is}
use Rattle.sessions.proofs.result.write_result.Goals as goal

pub returns : goal.returns
returns c =
    on_ok_weaker c.write_quoted.result
    (λ e. e ∙ ap (λ l. c.args.out.now.items ++ l) (outcome_is c.args.outcome.now c.deref.result.now (c.deref.ensures.value ∙ c.in_ok-buffer.ensures)))
    c.write_quoted.ensures
