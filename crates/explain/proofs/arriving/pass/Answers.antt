use Rattle.instruction_rules.specs.Judged.{destination_left}
use Rattle.instruction_rules.proofs.StateLemmas.{refused_is, allowed_is}
use Rattle.explain.specs.Arriving.{arriving, subject_of_program}
use Rattle.explain.proofs.ArrivingLemmas.{passes_refused, passes_allowed}
use Rattle.std.proofs.Common.{ap}
use Rattle.explain.proofs.arriving.pass.Goals as goal

pub transfer-requires : goal.transfer-requires
transfer-requires c = (allowed_is _ (destination_left c.args.insn.now c.in-Reached.state) c.in-Ok.left c.in-Ok.ensures).1

pub returns-in-Err : goal.returns-in-Err
returns-in-Err c =
    let broken = refused_is _ (destination_left c.args.insn.now c.in-Reached.state) c.in-Err.field-0 c.in-Err.ensures in
    passes_refused (subject_of_program c.args.analyzed.now) c.args.insn.now _ (arriving c.args.arrival.now) c.in-Reached.state c.in-Err.field-0 (ap arriving c.in-Reached.is) broken

pub returns-in-Ok : goal.returns-in-Ok
returns-in-Ok c =
    let allowed = allowed_is _ (destination_left c.args.insn.now c.in-Reached.state) c.in-Ok.left c.in-Ok.ensures in
    passes_allowed (subject_of_program c.args.analyzed.now) c.args.insn.now _ (arriving c.args.arrival.now) c.in-Reached.state c.transfer.new.state (ap arriving c.in-Reached.is) allowed.0
    c.transfer.ensures
