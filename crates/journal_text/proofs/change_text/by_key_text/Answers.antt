use Rattle.std.proofs.Common.{◌-◌, take, ap, ◌∙◌}
use Rattle.serde_json.specs.Written.{compact_text, has_float}
use Rattle.journal_text.proofs.PlainChanges.{key_plain}
use Rattle.journal_text.proofs.KeyedTexts.{keyed_text}
use Rattle.journal_text.proofs.change_text.by_key_text.Goals as goal

pub returns : goal.returns
returns c =
    let key = c.args.key.now in
    let plain = ap has_float c.in_ok-key.ensures ∙ key_plain key in
    let member = c.deref.ensures.value ∙ (c.in_ok-member.ensures.text plain ∙ ap compact_text c.in_ok-key.ensures) in
    let cut = c.pop.ensures.rest ∙ ap (λ n. take (n - 1) c.in_ok-text.text.items) c.in_ok-text.text.ok.0 in
    keyed_text c.args.at c.args.number c.args.change.now key c.in_ok-text.text.items c.deref.result.now c.pop.new.self.items c.push.new.self.items _
    c.in_ok-text.ensures member cut c.in_ok-push.ensures.items c.in_ok-extend_from_slice.ensures.items
