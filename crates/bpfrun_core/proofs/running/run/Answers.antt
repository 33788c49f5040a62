use Rattle.std.proofs.Common.{◌∙◌}
use Rattle.bpfrun_core.proofs.Helpless.{executes_alone, nobody}
use Rattle.bpfrun_core.proofs.running.run.Goals as goal

pub returns-in-Ok-execute : goal.returns-in-Ok-execute
returns-in-Ok-execute c =
    let set = rw c.in-Ok.ensures.helpers.0 at c.in-Ok-set_program.ensures.program in
    let none = c.in-Ok-set_program.ensures.helpers.1 ∙ c.in-Ok.ensures.helpers.1 in
    let runs = rw set.1 at c.in-Ok-execute.ensures.runs in
    record {
      small = c.if-memory-gt-MAX_PART.false;
      program = set.0;
      accepted = set.2;
      runs = executes_alone _ _ (nobody _ none) c.args.arg c.args.credit c.args.memory.now _ _ _ runs;
    }
