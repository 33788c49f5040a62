use Rattle.verifier.specs.Sources.{AreLinked}
use Rattle.explain.proofs.predecessors.Predecessors.of.Given as goal

abbrev pub invariant-loop-from : goal.invariant-loop-from
invariant-loop-from l = AreLinked l.graph.code l.predecessors l.from

-- proposed from the loop's first test
abbrev pub decreases-loop-from : goal.decreases-loop-from
decreases-loop-from l = l.from
