use Rattle.std.proofs.Common.{◌≤◌, ap, sym, ◌∙◌, map, subst, Some}
use Rattle.serde_json.specs.Data.{Data, depth}
use Rattle.serde_json.specs.Written.{compact_text, has_float}
use Rattle.sessions.specs.Grammar.{JobText, program_asked}
use Rattle.conversation.proofs.Plain.{order_plain, order_shallow}
use Rattle.conversation.proofs.object.object_text.Goals as goal

pub returns : goal.returns
returns c =
    let order : JobText = record { programs = map program_asked c.args.programs.now; credit = c.args.credit; buffer = c.args.buffer.now } in
    let is = c.in_ok-value.ensures in (
      c.in_ok-text.ensures.text (ap has_float is ∙ order_plain order) ∙ ap compact_text is,
      (
        c.in_ok-text.ensures.utf8,
        c.in_ok-text.ensures.reads_back (subst (λ (d : Data). depth d ≤ 127) (sym is) (order_shallow order)) ∙ ap (λ (d : Data). Some d) is,
      ),
    )
