use Rattle.std.proofs.Common.{arith}
use Rattle.std.proofs.lemmas.Result.{err_from_is_err_and}
use Rattle.flow_graph.proofs.Decoded.{decoded_of}
use Rattle.verifier.proofs.Verdicts.{codec_refused, flow_refused}
use Rattle.explain.proofs.FaultLemmas.{codec_unruled, flow_unruled}
use Rattle.explain.proofs.graphed_program.graphed.Goals as goal

pub returns-in_err-placed : goal.returns-in_err-placed
returns-in_err-placed c =
    let p = err_from_is_err_and c.from_residual.result c.from_residual.ensures.1 in
    rw (p.1, p.2) (
      λ helpers. codec_refused c.args.need c.args.code.now helpers c.in_err-placed.field-0.0 (omega arith) c.in_err-placed.ensures.refused,
      codec_unruled c.in_err-placed.field-0.0,
    )

pub build-requires : goal.build-requires
build-requires c = rw c.deref.ensures.value (decoded_of _ _ c.in_ok-placed.ensures.found)

pub returns-in_err-graph : goal.returns-in_err-graph
returns-in_err-graph c =
    let p = err_from_is_err_and c.from_residual-in_err-graph.result c.from_residual-in_err-graph.ensures.1 in
    rw (p.1, p.2) (
      λ helpers. flow_refused c.args.need c.args.code.now helpers c.in_ok-placed.placed.items c.in_err-graph.field-0.0 (omega arith)
          c.in_ok-placed.ensures.found (rw c.deref.ensures.value at c.in_err-graph.ensures),
      flow_unruled c.in_err-graph.field-0.0,
    )
