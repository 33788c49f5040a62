use Rattle.std.proofs.Common.{◌≡◌, ◌∙◌, Some, ap, subst, sym, rules}
use Rattle.insn_codec.specs.declared.fault.CodecFault.TheVariants as codec
use Rattle.flow_graph.specs.declared.fault.FlowFault.TheVariants as flow
use Rattle.flow_graph.specs.Program.{code_of}
use Rattle.flow_graph.proofs.Decoded.{decoded_of}
use Rattle.machine_model.specs.Edges.{Begins, Code, insn_at}
use Rattle.machine_model.proofs.Codes.{begins_within}
use Rattle.verifier.specs.InStates.{Reached, in_state}
use Rattle.explain.proofs.FaultLemmas.{no_insn}
use Rattle.explain.proofs.RefusedLemmas.{not_codec, not_flow, same_code}
use Rattle.explain.proofs.knowing.known_at.Goals as goal

pub unreachable-requires : goal.unreachable-requires
unreachable-requires c =
    let same : c.in-Err.field-0 ≡ codec.NoMemory = not_codec c.requires.placed c.args.code.now c.in-Err.field-0 c.requires.program c.in-Err.ensures.refused in
    search (rules, same)

pub build-requires : goal.build-requires
build-requires c = rw c.deref.ensures.value (decoded_of _ _ c.in-Ok.ensures.found)

pub unreachable-requires-in-Err-build : goal.unreachable-requires-in-Err-build
unreachable-requires-in-Err-build c =
    let code : code_of c.requires.placed ≡ code_of c.in-Ok.placed.items =
    same_code c.args.need c.args.code.now c.args.helpers.now c.args.slot c.in-Ok.placed.items c.requires c.in-Ok.ensures.found in
    let same : c.in-Err-build.field-0 ≡ flow.NoMemory =
    not_flow (code_of c.requires.placed) c.in-Err-build.field-0 c.requires.flow (rw (c.deref.ensures.value, sym code) at c.in-Err-build.ensures) in
    search (rules, same)

pub state_at-requires-clause-slot : goal.state_at-requires-clause-slot
state_at-requires-clause-slot c =
    let code : c.in-Ok-build.graph.code ≡ code_of c.requires.placed =
    c.in-Ok-build.ensures.same ∙ (ap code_of c.deref.ensures.value
    ∙ sym (same_code c.args.need c.args.code.now c.args.helpers.now c.args.slot c.in-Ok.placed.items c.requires c.in-Ok.ensures.found)) in
    begins_within c.in-Ok-build.graph.code c.args.slot (subst (λ (k : Code). Begins k c.args.slot) (sym code) (c.requires.faulty.insn, c.requires.faulty.there))

pub state_at-requires-clause-arrives : goal.state_at-requires-clause-arrives
state_at-requires-clause-arrives c =
    let code : c.in-Ok-build.graph.code ≡ code_of c.requires.placed =
    c.in-Ok-build.ensures.same ∙ (ap code_of c.deref.ensures.value
    ∙ sym (same_code c.args.need c.args.code.now c.args.helpers.now c.args.slot c.in-Ok.placed.items c.requires c.in-Ok.ensures.found)) in (
      c.requires.faulty.state,
      subst (λ (k : Code). in_state (record { need = c.args.need; helpers = c.args.helpers.now; code = k }) c.args.slot ≡ Reached c.requires.faulty.state) (sym code)
          c.requires.faulty.arrives,
    )

pub unreachable-requires-in-None : goal.unreachable-requires-in-None
unreachable-requires-in-None c =
    let code : c.in-Ok-build.graph.code ≡ code_of c.requires.placed =
    c.in-Ok-build.ensures.same ∙ (ap code_of c.deref.ensures.value
    ∙ sym (same_code c.args.need c.args.code.now c.args.helpers.now c.args.slot c.in-Ok.placed.items c.requires c.in-Ok.ensures.found)) in
    no_insn _ c.requires.faulty.insn (rw c.in-None.is at c.insn.ensures)
    (subst (λ (k : Code). insn_at k c.args.slot ≡ Some c.requires.faulty.insn) (sym code) c.requires.faulty.there)
