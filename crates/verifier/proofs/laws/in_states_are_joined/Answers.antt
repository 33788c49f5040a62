use Rattle.verifier.proofs.Arrivals.{arrive_is}
use Rattle.verifier.proofs.laws.in_states_are_joined.Goals as goal

pub returns : goal.returns
returns c = λ p order flow. arrive_is p order flow.joined flow.order flow.short
