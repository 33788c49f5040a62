use Rattle.instruction_rules.specs.Judged.{destination_left}
use Rattle.instruction_rules.proofs.StateLemmas.{refused_is, allowed_is}
use Rattle.explain.proofs.NeedLemmas.{leaves_by, leaves_not}
use Rattle.explain.proofs.needs.leaves_part.Goals as goal

pub returns-in-Err : goal.returns-in-Err
returns-in-Err c =
    leaves_by _ c.in-Err.rule c.is_of_part.result (refused_is _ (destination_left c.args.insn.now c.args.state.now) c.in-Err.rule c.in-Err.ensures) c.is_of_part.ensures

pub returns-in-Ok : goal.returns-in-Ok
returns-in-Ok c = leaves_not _ (allowed_is _ (destination_left c.args.insn.now c.args.state.now) c.in-Ok.field-0 c.in-Ok.ensures).0
