use Rattle.std.proofs.Common.{ap, ap₂, ◌∙◌}
use Rattle.std.proofs.lemmas.Result.{IfOk-weaker}
use Rattle.clap.specs.Words.{App, with_subcommand}
use Rattle.bpfjobs_cli.specs.Program.{with_text_commands}
use Rattle.bpfjobs_cli.proofs.program.bpfjobs.Goals as goal

pub returns : goal.returns
returns c =
    let first = c.in_ok-command.ensures ∙ ap with_text_commands c.requiring.ensures in
    let second = c.in_ok-command-2.ensures.shape c.in_ok-verify.ensures.local ∙ ap₂ with_subcommand first (ap (λ (a : App). a.top) c.in_ok-verify.ensures.app) in
    let third = c.in_ok-command-3.ensures.shape c.in_ok-play.ensures.local ∙ ap₂ with_subcommand second (ap (λ (a : App). a.top) c.in_ok-play.ensures.app) in
    let fourth = c.in_ok-command-4.ensures.shape c.in_ok-run.ensures.local ∙ ap₂ with_subcommand third (ap (λ (a : App). a.top) c.in_ok-run.ensures.app) in
    let fifth = c.in_ok-command-5.ensures.shape c.in_ok-serve.ensures.local ∙ ap₂ with_subcommand fourth (ap (λ (a : App). a.top) c.in_ok-serve.ensures.app) in
    let sixth = c.in_ok-command-6.ensures.shape c.in_ok-read_journal.ensures.local ∙ ap₂ with_subcommand fifth (ap (λ (a : App). a.top) c.in_ok-read_journal.ensures.app) in
    let seventh = c.in_ok-command-7.ensures.shape c.in_ok-ask.ensures.local ∙ ap₂ with_subcommand sixth (ap (λ (a : App). a.top) c.in_ok-ask.ensures.app) in
    let eighth = c.in_ok-command-8.ensures.shape c.in_ok-write_job.ensures.local ∙ ap₂ with_subcommand seventh (ap (λ (a : App). a.top) c.in_ok-write_job.ensures.app) in
    IfOk-weaker c.subcommand-8.result _ _ (λ r h. h.shape c.in_ok-check_result.ensures.local ∙ ap₂ with_subcommand eighth (ap (λ (a : App). a.top) c.in_ok-check_result.ensures.app)) c.subcommand-8.ensures
