use Rattle.std.proofs.Common.{◌≡◌, ◌∙◌, ℕ, List, None, ap, refl, rules, slice_index_or, subst, sym}
use Rattle.insn_codec.specs.declared.fault.CodecFault.TheVariants as codec
use Rattle.flow_graph.specs.declared.fault.FlowFault.TheVariants as flow
use Rattle.flow_graph.specs.Program.{code_of}
use Rattle.flow_graph.proofs.Decoded.{decoded_of}
use Rattle.explain.proofs.RefusedLemmas.{not_codec, not_flow}
use Rattle.machine_model.specs.Edges.{Code}
use Rattle.machine_model.specs.Machine.{Program}
use Rattle.machine_model.specs.Paths.{AreCosts}
use Rattle.reference.specs.Records.{program_of}
use Rattle.run_trace.specs.declared.job_programs.Listed.{Listed}
use Rattle.run_trace.proofs.Growing.{mapped_more}
use Rattle.run_trace.proofs.Running.{accepted_flow}
use Rattle.run_trace.proofs.SameTrace.{arities}
use Rattle.run_trace.proofs.job_programs.JobPrograms.add.Goals as goal

pub unreachable-requires : goal.unreachable-requires
unreachable-requires c =
    let same : c.in-Err.field-0 ≡ codec.NoMemory =
    not_codec c.requires.1.decoded.0 c.args.code.now c.in-Err.field-0 c.requires.1.decoded.1 c.in-Err.ensures.refused in
    search (rules, same)

pub build-requires : goal.build-requires
build-requires c = rw c.deref.ensures.value (decoded_of _ _ c.in-Ok.ensures.found)

pub unreachable-requires-in-Err-build : goal.unreachable-requires-in-Err-build
unreachable-requires-in-Err-build c =
    let has = accepted_flow c.args.need c.args.code.now c.requires.0 c.in-Ok.placed.items c.requires.1 c.in-Ok.ensures.found in
    let same : c.in-Err-build.field-0 ≡ flow.NoMemory =
    not_flow (code_of c.in-Ok.placed.items) c.in-Err-build.field-0 has (rw c.deref.ensures.value at c.in-Err-build.ensures) in
    search (rules, same)

pub returns-clause-added : goal.returns-clause-added
returns-clause-added c =
    let p : Program = record {
      need = c.args.need;
      code = c.into_code.result.items;
      costs = c.into_table.result.items;
      registered = λ helper. slice_index_or c.in_ok-registered.registered.items helper None;
    } in (
      c.in-Ok.placed.items,
      p,
      record {
        spelled = c.in-Ok.ensures.found;
        same_need = refl;
        same_code = c.into_code.ensures ∙ (c.in-Ok-build.ensures.same ∙ ap code_of c.deref.ensures.value);
        costs = subst (λ (k : List ℕ). AreCosts c.into_code.result.items k) (sym c.into_table.ensures)
            (subst (λ (d : Code). AreCosts d c.in_ok-table.table) (sym c.into_code.ensures) c.in_ok-table.ensures);
        helpers = arities _ c.in_ok-registered.ensures.items;
      },
      mapped_more (λ (l : Listed). l.placed.items) _ _ _ _ c.reserve.ensures.items c.push_reserved-2.ensures.items,
      mapped_more program_of _ _ _ _ c.reserve-2.ensures.items c.push_reserved.ensures.items,
    )
