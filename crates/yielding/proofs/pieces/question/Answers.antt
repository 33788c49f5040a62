use Rattle.std.proofs.Common.{sym, ◌∙◌}
use Rattle.yielding.proofs.pieces.question.Goals as goal

pub returns-clause-arguments : goal.returns-clause-arguments
returns-clause-arguments c = (c.in-Some.arity, sym c.arity.ensures ∙ c.in-Some.is, c.arguments.ensures)

pub unreachable-requires : goal.unreachable-requires
unreachable-requires c = c.requires (sym c.arity.ensures ∙ c.in-None.is)
