use Rattle.std.proofs.Common.{ap, ◌∙◌}
use Rattle.std.proofs.lemmas.Result.{IfOk-weaker}
use Rattle.serde_json.specs.Written.{compact_text, has_float}
use Rattle.journal_text.proofs.PlainChanges.{key_kept_plain}
use Rattle.journal_text.proofs.change_text.key_kept_text.Goals as goal

pub returns : goal.returns
returns c =
    let plain = ap has_float c.in_ok-value.ensures ∙ key_kept_plain c.args.at c.args.job c.args.key.now in
    IfOk-weaker c.to_vec.result _ _ (λ v text. text plain ∙ ap compact_text c.in_ok-value.ensures) c.to_vec.ensures.text
