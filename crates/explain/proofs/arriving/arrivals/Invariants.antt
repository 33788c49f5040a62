use Rattle.explain.specs.Arriving.{AreFilled, subject_of_program}
use Rattle.explain.proofs.arriving.arrivals.Given as goal

abbrev pub invariant-loop-place : goal.invariant-loop-place
invariant-loop-place l = AreFilled (subject_of_program l.analyzed) l.analyzed.graph.now.order l.place l.table.items
