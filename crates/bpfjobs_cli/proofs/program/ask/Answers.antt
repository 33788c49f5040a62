use Rattle.std.proofs.Common.{Bool, ◌||◌, ap₂, ◌∙◌}
use Rattle.std.proofs.lemmas.Result.{IfOk-weaker}
use Rattle.clap.specs.Words.{with_rule}
use Rattle.bpfjobs_cli.proofs.program.ask.Goals as goal

pub returns-clause-app : goal.returns-clause-app
returns-clause-app c =
    let first = c.in_ok-arg.ensures.shape c.port.ensures.local ∙ ap₂ with_rule c.asking.ensures.app c.port.ensures.rule in
    let second = c.in_ok-arg-2.ensures.shape c.socket.ensures.local ∙ ap₂ with_rule first c.socket.ensures.rule in
    let third = c.in_ok-arg-3.ensures.shape c.wait.ensures.local ∙ ap₂ with_rule second c.wait.ensures.rule in
    let fourth = c.in_ok-arg-4.ensures.shape c.word.ensures.local ∙ ap₂ with_rule third c.word.ensures.rule in
    let fifth = c.in_ok-arg-5.ensures.shape c.subject.ensures.local ∙ ap₂ with_rule fourth c.subject.ensures.rule in
    let sixth = c.in_ok-arg-6.ensures.shape c.amount.ensures.local ∙ ap₂ with_rule fifth c.amount.ensures.rule in
    let seventh = c.in_ok-arg-7.ensures.shape c.key.ensures.local ∙ ap₂ with_rule sixth c.key.ensures.rule in
    IfOk-weaker c.arg-8.result _ _ (λ r h. h.shape c.from.ensures.local ∙ ap₂ with_rule seventh c.from.ensures.rule) c.arg-8.ensures

pub returns-clause-local : goal.returns-clause-local
returns-clause-local c =
    let either : Bool → Bool → Bool = λ a b. a || b in
    let first = c.in_ok-arg.ensures.globals ∙ ap₂ either c.asking.ensures.local c.port.ensures.local in
    let second = c.in_ok-arg-2.ensures.globals ∙ ap₂ either first c.socket.ensures.local in
    let third = c.in_ok-arg-3.ensures.globals ∙ ap₂ either second c.wait.ensures.local in
    let fourth = c.in_ok-arg-4.ensures.globals ∙ ap₂ either third c.word.ensures.local in
    let fifth = c.in_ok-arg-5.ensures.globals ∙ ap₂ either fourth c.subject.ensures.local in
    let sixth = c.in_ok-arg-6.ensures.globals ∙ ap₂ either fifth c.amount.ensures.local in
    let seventh = c.in_ok-arg-7.ensures.globals ∙ ap₂ either sixth c.key.ensures.local in
    IfOk-weaker c.arg-8.result _ _ (λ r h. h.globals ∙ ap₂ either seventh c.from.ensures.local) c.arg-8.ensures
