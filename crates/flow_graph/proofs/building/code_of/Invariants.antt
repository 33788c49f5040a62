use Rattle.std.proofs.Common.{◌≡◌, ◌++◌, drop}
use Rattle.flow_graph.specs.Program.{code_of}
use Rattle.flow_graph.proofs.building.code_of.Given as goal

abbrev pub invariant-loop-place : goal.invariant-loop-place
invariant-loop-place l = l.code.items ++ code_of (drop l.place-index l.placed) ≡ code_of l.placed
