use Rattle.std.proofs.Common.{Bool, ◌||◌, ap₂, ◌∙◌}
use Rattle.std.proofs.lemmas.Result.{IfOk-weaker}
use Rattle.clap.specs.Words.{with_rule}
use Rattle.bpfjobs_cli.proofs.program.play.Goals as goal

pub returns-clause-app : goal.returns-clause-app
returns-clause-app c =
    let first = c.in_ok-arg.ensures.shape c.trace.ensures.local ∙ ap₂ with_rule c.named.ensures.app c.trace.ensures.rule in
    let second = c.in_ok-arg-2.ensures.shape c.trace_json.ensures.local ∙ ap₂ with_rule first c.trace_json.ensures.rule in
    IfOk-weaker c.arg-3.result _ _ (λ r h. h.shape c.input.ensures.local ∙ ap₂ with_rule second c.input.ensures.rule) c.arg-3.ensures

pub returns-clause-local : goal.returns-clause-local
returns-clause-local c =
    let either : Bool → Bool → Bool = λ a b. a || b in
    let first = c.in_ok-arg.ensures.globals ∙ ap₂ either c.named.ensures.local c.trace.ensures.local in
    let second = c.in_ok-arg-2.ensures.globals ∙ ap₂ either first c.trace_json.ensures.local in
    IfOk-weaker c.arg-3.result _ _ (λ r h. h.globals ∙ ap₂ either second c.input.ensures.local) c.arg-3.ensures
