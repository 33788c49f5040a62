use Rattle.std.proofs.Common.{ap₂, ◌∙◌}
use Rattle.std.proofs.lemmas.Result.{IfOk-weaker}
use Rattle.clap.specs.Words.{with_rule}
use Rattle.bpfrun_core.proofs.program.bpfrun.Goals as goal

pub returns : goal.returns
returns c =
    let first = c.in_ok-arg.ensures.shape c.file.ensures.local ∙ ap₂ with_rule c.named.ensures.app c.file.ensures.rule in
    let second = c.in_ok-arg-2.ensures.shape c.need.ensures.local ∙ ap₂ with_rule first c.need.ensures.rule in
    let third = c.in_ok-arg-3.ensures.shape c.credit.ensures.local ∙ ap₂ with_rule second c.credit.ensures.rule in
    let fourth = c.in_ok-arg-4.ensures.shape c.argument.ensures.local ∙ ap₂ with_rule third c.argument.ensures.rule in
    let fifth = c.in_ok-arg-5.ensures.shape c.path.ensures.local ∙ ap₂ with_rule fourth c.path.ensures.rule in
    let sixth = c.in_ok-arg-6.ensures.shape c.flag.ensures.local ∙ ap₂ with_rule fifth c.flag.ensures.rule in
    let seventh = c.in_ok-arg-7.ensures.shape c.flag-2.ensures.local ∙ ap₂ with_rule sixth c.flag-2.ensures.rule in
    let eighth = c.in_ok-arg-8.ensures.shape c.flag-3.ensures.local ∙ ap₂ with_rule seventh c.flag-3.ensures.rule in
    let ninth = c.in_ok-arg-9.ensures.shape c.flag-4.ensures.local ∙ ap₂ with_rule eighth c.flag-4.ensures.rule in
    IfOk-weaker c.arg-10.result _ _ (λ r h. h.shape c.path-2.ensures.local ∙ ap₂ with_rule ninth c.path-2.ensures.rule) c.arg-10.ensures
