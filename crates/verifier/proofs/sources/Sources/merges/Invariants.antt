use Rattle.std.proofs.Common.{◌≡◌}
use Rattle.verifier.specs.Merges.{merges_below}
use Rattle.verifier.proofs.sources.Sources.merges.Given as goal

abbrev pub invariant-loop-slot : goal.invariant-loop-slot
invariant-loop-slot l = l.merges ≡ merges_below l.graph.code l.slot
