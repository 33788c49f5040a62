use Rattle.lanes.specs.Passes.{IsOwner}
use Rattle.server_tests.proofs.passing.pushes.Given as goal

abbrev pub invariant-loop-turn : goal.invariant-loop-turn
invariant-loop-turn l = IsOwner l.lane l.pass

abbrev pub invariant-loop : goal.invariant-loop
invariant-loop l = IsOwner l.lane l.pass
