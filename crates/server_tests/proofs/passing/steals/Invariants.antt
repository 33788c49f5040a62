use Rattle.lanes.specs.Passes.{IsGuest}
use Rattle.server_tests.proofs.passing.steals.Given as goal

abbrev pub invariant-loop : goal.invariant-loop
invariant-loop g l =
    (goal.iterator-loop g).can_next l.iterator' × (goal.iterator-loop g).is_finite l.iterator' × IsGuest l.thief l.pass
