use Rattle.std.proofs.Common.{Option, option_map, option_and_then, ap, ◌∙◌}
use Rattle.serde_json.specs.Data.{Data}
use Rattle.serde_json.specs.Find.{as_array}
use Rattle.serde_json.specs.View.{view}
use Rattle.sessions.specs.Grammar.{list_of}
use Rattle.sessions.proofs.Lists.{list_read}
use Rattle.sessions.proofs.member.list_member.Goals as goal

pub returns : goal.returns
returns c =
    list_read (λ vs. vs.now.items) c.as_array.result (view c.in_ok-get.field-0.now) c.as_array.ensures
    ∙ ap (λ (o : Option Data). option_map list_of (option_and_then as_array o)) c.in_ok-get.ensures
