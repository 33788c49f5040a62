use Rattle.std.proofs.Common.{length}
use Rattle.std.specs.Prelude.{All}
use Rattle.lanes.specs.Passes.{IsGuest}
use Rattle.server_tests.proofs.passing.run_all.Given as goal

abbrev pub invariant-loop-pair : goal.invariant-loop-pair
invariant-loop-pair g l = All (λ h. IsGuest h.0 h.1) l.thieves.items

abbrev pub decreases-loop-pair : goal.decreases-loop-pair
decreases-loop-pair g l = length l.thieves.items
