use Rattle.std.proofs.Common.{◌≡◌, ◌∙◌, rules}
use Rattle.flow_graph.specs.declared.fault.FlowFault.TheVariants as flow
use Rattle.flow_graph.specs.Program.{code_of}
use Rattle.explain.proofs.RefusedLemmas.{not_flow}
use Rattle.run_trace.proofs.SameTrace.{arities}
use Rattle.run_trace.proofs.tracing.reference_of.Goals as goal

pub unreachable-requires : goal.unreachable-requires
unreachable-requires c =
    let same : c.in-Err.field-0 ≡ flow.NoMemory = not_flow (code_of c.args.placed.now) c.in-Err.field-0 c.requires.flow c.in-Err.ensures in
    search (rules, same)

pub returns : goal.returns
returns c = record { code = c.into_code.ensures ∙ c.in-Ok.ensures.same; registered = arities _ c.in_ok-registered.ensures.items }
