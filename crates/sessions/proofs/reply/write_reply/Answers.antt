use Rattle.std.proofs.Common.{ap, ◌∙◌}
use Rattle.serde_json.specs.Written.{has_float}
use Rattle.sessions.proofs.Texts.{status_plain, play_plain}
use Rattle.sessions.proofs.reply.write_reply.Goals as goal

pub write_value-requires : goal.write_value-requires
write_value-requires c =
    ap has_float c.in_ok-status_value-in-Status.ensures ∙ status_plain c.in-Status.complete c.in-Status.returned c.in-Status.spent

pub write_value-requires-in-Play : goal.write_value-requires-in-Play
write_value-requires-in-Play c =
    ap has_float c.in_ok-play_value-in-Play.ensures ∙ play_plain c.in-Play.buffer.now c.in-Play.complete c.in-Play.held c.in-Play.returned c.in-Play.spent c.in-Play.used
