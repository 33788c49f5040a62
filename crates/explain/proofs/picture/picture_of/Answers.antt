use Rattle.std.proofs.Common.{subst, sym}
use Rattle.std.proofs.lemmas.Result.{err_from_is_err_and}
use Rattle.machine_model.specs.Edges.{Code}
use Rattle.flow_graph.proofs.Decoded.{decoded_of}
use Rattle.explain.specs.Blocks.{AreBegun, slots_in}
use Rattle.explain.proofs.BlockLemmas.{all_begun}
use Rattle.explain.proofs.FaultLemmas.{flow_of}
use Rattle.explain.proofs.picture.picture_of.Goals as goal

pub returns-in_err-whole : goal.returns-in_err-whole
returns-in_err-whole c =
    let p = err_from_is_err_and c.from_residual.result c.from_residual.ensures.1 in
    rw (p.1, p.2) (c.in_err-whole.ensures.0 c.args.helpers.now, c.in_err-whole.ensures.1)

pub blocks-requires-clause-begun : goal.blocks-requires-clause-begun
blocks-requires-clause-begun c =
    rw c.deref.ensures.value
    (subst (λ (code : Code). AreBegun code (slots_in c.in_ok-whole.whole.placed.items)) (sym c.in_ok-whole.ensures.built.same)
    (all_begun c.in_ok-whole.whole.placed.items (decoded_of _ _ c.in_ok-whole.ensures.program)))

pub returns : goal.returns
returns c = record {
  small = c.in_ok-whole.ensures.small;
  placed = c.in_ok-whole.whole.placed.items;
  program = c.in_ok-whole.ensures.program;
  flow = flow_of _ c.in_ok-whole.whole.graph c.in_ok-whole.ensures.built;
  lines = _;
  from = c.in_ok-lines.ensures;
  places = rw (c.deref-2.ensures.value, c.deref-3.ensures.value) at c.in_ok-places.ensures;
  blocks = rw (c.deref.ensures.value, c.in_ok-whole.ensures.built.same) at c.in_ok-blocks.ensures;
  why = c.in_ok-why.ensures;
}
