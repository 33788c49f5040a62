use Rattle.std.proofs.Common.{Bool, ◌||◌, ap₂, ◌∙◌}
use Rattle.std.proofs.lemmas.Result.{IfOk-weaker}
use Rattle.clap.specs.Words.{with_rule}
use Rattle.bpfjobs_cli.proofs.program.check_result.Goals as goal

pub returns-clause-app : goal.returns-clause-app
returns-clause-app c =
    let first = c.in_ok-arg.ensures.shape c.job_file.ensures.local ∙ ap₂ with_rule c.named.ensures.app c.job_file.ensures.rule in
    IfOk-weaker c.arg-2.result _ _ (λ r h. h.shape c.result_file.ensures.local ∙ ap₂ with_rule first c.result_file.ensures.rule) c.arg-2.ensures

pub returns-clause-local : goal.returns-clause-local
returns-clause-local c =
    let either : Bool → Bool → Bool = λ a b. a || b in
    let first = c.in_ok-arg.ensures.globals ∙ ap₂ either c.named.ensures.local c.job_file.ensures.local in
    IfOk-weaker c.arg-2.result _ _ (λ r h. h.globals ∙ ap₂ either first c.result_file.ensures.local) c.arg-2.ensures
