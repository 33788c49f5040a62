use Rattle.std.proofs.Common.{◌≡◌, map, take}
use Rattle.serde_json.specs.View.{view}
use Rattle.bpfjobs_cli.specs.AskRequests.{asked_program}
use Rattle.bpfjobs_cli.proofs.asked_request.program_values.Given as goal

-- those of the first programs
abbrev pub invariant-loop-program : goal.invariant-loop-program
invariant-loop-program l = map view l.values.items ≡ map asked_program (take l.program-index l.programs)
