use Rattle.server_tests.proofs.asking.asked.Given as goal

abbrev pub invariant-loop : goal.invariant-loop
invariant-loop g l = g.N.Runner.ready l.runner
