use Rattle.verifier.specs.InStates.{in_state}
use Rattle.verifier.proofs.Arrivals.{arrive_is, arrive_unique}
use Rattle.verifier.proofs.laws.in_states_are_unique.Goals as goal

pub returns : goal.returns
returns c = λ p order other flow solves s within.
    arrive_unique p other (in_state p) order s flow.joined flow.order solves (arrive_is p order flow.joined flow.order flow.short) within
