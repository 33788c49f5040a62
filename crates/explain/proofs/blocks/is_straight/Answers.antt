use Rattle.std.proofs.Common.{subst}
use Rattle.machine_model.specs.Edges.{Always, IsEdge}
use Rattle.explain.proofs.blocks.is_straight.Goals as goal

pub returns-else-one-to : goal.returns-else-one-to
returns-else-one-to c = (
  λ t. record { edge = subst (IsEdge c.args.graph.now.code c.args.from Always) c.if-one-to.false c.in-One.ensures.0; sole = c.is_sole.ensures.0 t },
  λ straight. c.is_sole.ensures.1 straight.sole,
)
