use Rattle.std.proofs.Common.{refl, arith}
use Rattle.std.proofs.lemmas.Result.{err_from_is_err_and}
use Rattle.flow_graph.proofs.Decoded.{decoded_of}
use Rattle.verifier.specs.Checked.{checked, subject}
use Rattle.verifier.proofs.Predecodings.{regions_of}
use Rattle.verifier.proofs.Verdicts.{codec_refused, flow_refused, states_refused, verified_of, accepted_of}
use Rattle.verifier.proofs.verification.verify.Goals as goal

pub returns-in_err-placed : goal.returns-in_err-placed
returns-in_err-placed c =
    let p = err_from_is_err_and c.from_residual.result c.from_residual.ensures.1 in
    rw (p.1, p.2)
    (codec_refused c.args.need c.args.code.now c.args.helpers.now c.in_err-placed.field-0.0 (omega arith) c.in_err-placed.ensures.refused)

pub build-requires : goal.build-requires
build-requires c = rw c.deref.ensures.value (decoded_of _ _ c.in_ok-placed.ensures.found)

pub returns-in_err-graph : goal.returns-in_err-graph
returns-in_err-graph c =
    let p = err_from_is_err_and c.from_residual-in_err-graph.result c.from_residual-in_err-graph.ensures.1 in
    rw (p.1, p.2)
    (flow_refused c.args.need c.args.code.now c.args.helpers.now c.in_ok-placed.placed.items c.in_err-graph.field-0.0 (omega arith)
    c.in_ok-placed.ensures.found (rw c.deref.ensures.value at c.in_err-graph.ensures))

pub returns-in_err-found : goal.returns-in_err-found
returns-in_err-found c =
    let p = err_from_is_err_and c.from_residual-in_err-found.result c.from_residual-in_err-found.ensures.1 in
    rw (p.1, p.2)
    (states_refused c.args.need c.args.code.now c.args.helpers.now c.in_ok-placed.placed.items c.in_ok-graph.graph c.in_err-found.field-0.0
    (omega arith) c.in_ok-placed.ensures.found (rw c.deref.ensures.value at c.in_ok-graph.ensures) c.in_err-found.ensures)

pub of-requires-clause-verified : goal.of-requires-clause-verified
of-requires-clause-verified c =
    rw (c.in_ok-helpers.ensures.same, c.into_table.ensures)
    (verified_of (checked c.args.need c.args.helpers.now c.in_ok-graph.graph.code c.in_ok-costs.costs) c.in_ok-graph.graph.order
    (omega arith) (rw c.graph.view_is at c.graph.invariant) c.in_ok-helpers.ensures.known c.in_ok-found.ensures.table c.in_ok-costs.ensures)

pub of-requires-clause-regions : goal.of-requires-clause-regions
of-requires-clause-regions c =
    rw c.in_ok-helpers.ensures.same
    (regions_of (subject c.args.need c.args.helpers.now c.in_ok-graph.graph.code) c.in_ok-predecoded.predecoded.items c.in_ok-found.found.regions.items
    c.in_ok-predecoded.ensures.code
    (rw c.deref-2.ensures.value at c.in_ok-predecoded.ensures.regions) c.in_ok-found.ensures.regions)

pub of-requires-clause-merges : goal.of-requires-clause-merges
of-requires-clause-merges c = c.in_ok-found.ensures.merges

pub returns : goal.returns
returns c =
    rw (c.of.ensures, c.in_ok-helpers.ensures.same, c.into_table.ensures)
    (accepted_of c.args.need c.args.code.now c.args.helpers.now c.in_ok-placed.placed.items c.in_ok-graph.graph
    (checked c.args.need c.args.helpers.now c.in_ok-graph.graph.code c.in_ok-costs.costs)
    (omega arith) c.in_ok-placed.ensures.found (rw c.deref.ensures.value at c.in_ok-graph.ensures) refl refl refl c.in_ok-found.ensures.table c.in_ok-costs.ensures)
