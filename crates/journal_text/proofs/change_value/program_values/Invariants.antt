use Rattle.std.proofs.Common.{◌≡◌, map, take}
use Rattle.serde_json.specs.View.{view}
use Rattle.journal_text.specs.ChangeData.{submitted_program}
use Rattle.journal_text.proofs.change_value.program_values.Given as goal

-- those of the first programs
abbrev pub invariant-loop-program : goal.invariant-loop-program
invariant-loop-program l = map view l.values.items ≡ map submitted_program (take l.program-index l.programs)
