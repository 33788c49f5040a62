use Rattle.std.proofs.Common.{Bool, ◌||◌, ap₂, ◌∙◌}
use Rattle.std.proofs.lemmas.Result.{IfOk-weaker}
use Rattle.clap.specs.Words.{with_rule}
use Rattle.bpfjobs_cli.proofs.program.write_job.Goals as goal

pub returns-clause-app : goal.returns-clause-app
returns-clause-app c =
    let first = c.in_ok-arg.ensures.shape c.credit.ensures.local ∙ ap₂ with_rule c.named.ensures.app c.credit.ensures.rule in
    let second = c.in_ok-arg-2.ensures.shape c.buffer.ensures.local ∙ ap₂ with_rule first c.buffer.ensures.rule in
    let third = c.in_ok-arg-3.ensures.shape c.schedule.ensures.local ∙ ap₂ with_rule second c.schedule.ensures.rule in
    IfOk-weaker c.arg-4.result _ _ (λ r h. h.shape c.sources.ensures.local ∙ ap₂ with_rule third c.sources.ensures.rule) c.arg-4.ensures

pub returns-clause-local : goal.returns-clause-local
returns-clause-local c =
    let either : Bool → Bool → Bool = λ a b. a || b in
    let first = c.in_ok-arg.ensures.globals ∙ ap₂ either c.named.ensures.local c.credit.ensures.local in
    let second = c.in_ok-arg-2.ensures.globals ∙ ap₂ either first c.buffer.ensures.local in
    let third = c.in_ok-arg-3.ensures.globals ∙ ap₂ either second c.schedule.ensures.local in
    IfOk-weaker c.arg-4.result _ _ (λ r h. h.globals ∙ ap₂ either third c.sources.ensures.local) c.arg-4.ensures
