use Rattle.std.proofs.Common.{◌≡◌, subst, sym, rules}
use Rattle.std.proofs.lemmas.Result.{IfOk-weaker}
use Rattle.insn_codec.specs.declared.fault.CodecFault.TheVariants as codec
use Rattle.flow_graph.proofs.Decoded.{decoded_of}
use Rattle.task_trees.specs.Solo.{entering}
use Rattle.reference.specs.Records.{FarWithin, program_of as reference_program, state_of}
use Rattle.verifier.specs.Checked.{program_of}
use Rattle.explain.proofs.RefusedLemmas.{not_codec}
use Rattle.run_trace.specs.Following.{ReachesEnd}
use Rattle.run_trace.specs.Traces.{unanswered}
use Rattle.run_trace.proofs.Running.{accepted_flow, ending_of, far_of, trace_of}
use Rattle.run_trace.proofs.tracing.trace_run.Goals as goal

pub unreachable-requires : goal.unreachable-requires
unreachable-requires c =
    let same : c.in-Err.field-0 ≡ codec.NoMemory =
    not_codec c.requires.accepted.decoded.0 c.args.code.now c.in-Err.field-0 c.requires.accepted.decoded.1 c.in-Err.ensures.refused in
    search (rules, same)

pub reference_of-requires-clause-flow : goal.reference_of-requires-clause-flow
reference_of-requires-clause-flow c =
    rw c.deref.ensures.value (accepted_flow c.requires.need c.args.code.now c.requires.program c.in-Ok.placed.items c.requires.accepted c.in-Ok.ensures.found)

pub reference_of-requires-clause-turn : goal.reference_of-requires-clause-turn
reference_of-requires-clause-turn c = rw c.deref.ensures.value (decoded_of _ _ c.in-Ok.ensures.found)

pub follow-requires-clause-turn : goal.follow-requires-clause-turn
follow-requires-clause-turn c = rw c.deref-2.ensures.value (decoded_of _ _ c.in-Ok.ensures.found)

pub follow-requires-clause-ends : goal.follow-requires-clause-ends
follow-requires-clause-ends c =
    let reference = rw c.deref.ensures.value at c.in_ok-program.ensures in
    let ends = ending_of c.requires.need c.args.code.now c.requires.program c.in-Ok.placed.items c.requires.accepted c.in-Ok.ensures.found
    (reference_program c.in_ok-program.program) reference (entering c.args.arg c.args.credit c.args.memory.now) c.requires.r0 c.requires.last c.requires.ends.0 c.requires.ends.1 in
    subst (ReachesEnd (reference_program c.in_ok-program.program)) (sym c.in_ok-start.ensures) ends

pub returns-clause-steps : goal.returns-clause-steps
returns-clause-steps c =
    let reference = rw c.deref.ensures.value at c.in_ok-program.ensures in
    IfOk-weaker c.follow.result _ _ (λ trace f.
    trace_of c.args.code.now _ c.args.arg c.args.credit c.args.memory.now trace c.in-Ok.placed.items (reference_program c.in_ok-program.program) c.in-Ok.ensures.found reference
    (rw (c.deref-2.ensures.value, c.deref-3.ensures.value, c.in_ok-lines.ensures, c.in_ok-start.ensures) at f)) c.follow.ensures.steps

pub returns-clause-far : goal.returns-clause-far
returns-clause-far c = λ is.
    let reference = rw c.deref.ensures.value at c.in_ok-program.ensures in
    let f = c.follow.ensures.far is in
    record {
      need = c.requires.need;
      program = c.requires.program;
      accepted = c.requires.accepted;
      steps = f.0;
      far = subst (FarWithin (program_of c.requires.program) unanswered f.0) c.in_ok-start.ensures
          (far_of c.requires.need c.args.code.now c.requires.program c.in-Ok.placed.items c.requires.accepted c.in-Ok.ensures.found
          (reference_program c.in_ok-program.program) reference f.0 (state_of c.in_ok-start.field-0) f.1);
    }
