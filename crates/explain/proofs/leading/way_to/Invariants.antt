use Rattle.explain.specs.Leading.{HasComeTo}
use Rattle.explain.proofs.leading.way_to.Given as goal

abbrev pub invariant-loop-place : goal.invariant-loop-place
invariant-loop-place l = HasComeTo l.graph.code l.graph.order l.marks.items l.slot l.place l.way.items l.at
