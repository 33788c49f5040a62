use Rattle.std.proofs.Common.{◌≡◌, map, take}
use Rattle.serde_json.specs.View.{view}
use Rattle.sessions.specs.Grammar.{program_asked}
use Rattle.conversation.specs.Objects.{program_data}
use Rattle.conversation.proofs.object.program_values.Given as goal

abbrev pub invariant-loop-program : goal.invariant-loop-program
invariant-loop-program l = map view l.values.items ≡ map program_data (map program_asked (take l.program-index l.programs))
