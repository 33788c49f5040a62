use Rattle.std.proofs.Common.{ap, ◌∙◌}
use Rattle.std.proofs.lemmas.Result.{IfOk-weaker}
use Rattle.serde_json.specs.Data.{string}
use Rattle.journal_text.proofs.PlainChanges.{other_name, text_name}
use Rattle.journal_text.proofs.change_value.name_value.Goals as goal

pub returns-in-Ok : goal.returns-in-Ok
returns-in-Ok c =
    IfOk-weaker c.text_value.result _ _ (λ v e. e ∙ ap string c.in-Ok.ensures.cases.0 ∙ text_name c.args.name.now c.in-Ok.ensures.cases.1) c.text_value.ensures

pub returns-in-Err : goal.returns-in-Err
returns-in-Err c = IfOk-weaker c.bytes_value.result _ _ (λ v e. e ∙ other_name c.args.name.now c.in-Err.ensures.cases.0) c.bytes_value.ensures
