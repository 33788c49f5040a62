use Rattle.std.proofs.Common.{◌≡◌, Some, map, take}
use Rattle.serde_json.specs.View.{view}
use Rattle.sessions.specs.Grammar.{all_of, program_asked, program_from}
use Rattle.bpfjobs_cli.specs.AskRequests.{asked_program}
use Rattle.bpfjobs_cli.proofs.job_texts.written_programs.Given as goal

-- those of the first programs
abbrev pub invariant-loop-program : goal.invariant-loop-program
invariant-loop-program l = record {
  same : map view l.values.items ≡ map asked_program (take l.program-index l.programs);
  back : all_of program_from (map view l.values.items) ≡ Some (map program_asked (take l.program-index l.programs));
}
