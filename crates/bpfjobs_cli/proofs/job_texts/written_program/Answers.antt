use Rattle.std.proofs.Common.{◌≤◌, ◌∙◌, ap, rules, subst}
use Rattle.std.proofs.lemmas.Result.{IfOk-weaker}
use Rattle.hex.specs.Hex.{IsBytes}
use Rattle.sessions.specs.Grammar.{program_from}
use Rattle.bpfjobs_cli.proofs.JobTextLemmas.{program_back}
use Rattle.bpfjobs_cli.proofs.job_texts.written_program.Goals as goal

pub returns-clause-back : goal.returns-clause-back
returns-clause-back c =
    let need : c.args.program.now.need ≤ 4294967295 = search rules in
    let code : IsBytes c.args.program.now.code.items = subst IsBytes c.deref.ensures.value c.tell_bytes.ensures in
    IfOk-weaker c.program_value.result _ _ (λ v is. ap program_from is ∙ program_back c.args.program.now need code) c.program_value.ensures
