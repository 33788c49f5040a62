use Rattle.std.proofs.Common.{ap, ap₂, ◌∙◌}
use Rattle.std.proofs.lemmas.Result.{IfOk-weaker}
use Rattle.clap.specs.Words.{App, app_of, with_subcommand}
use Rattle.bpfjobs_cli.proofs.program.with_texts.Goals as goal

pub returns : goal.returns
returns c =
    let first = c.in_ok-subcommand.ensures.shape c.in_ok-assemble.ensures.local ∙ ap (λ (a : App). with_subcommand (app_of c.args.command) a.top) c.in_ok-assemble.ensures.app in
    IfOk-weaker c.subcommand-2.result _ _ (λ r h. h.shape c.in_ok-disassemble.ensures.local ∙ ap₂ with_subcommand first (ap (λ (a : App). a.top) c.in_ok-disassemble.ensures.app)) c.subcommand-2.ensures
