use Rattle.std.proofs.Common.{◌≡◌, ◌∷◌, ◌++◌, ℕ, List, rules}
use Rattle.job_pool.specs.FairTurns.{AreFairFlows, FairFlow, flow_left}
use Rattle.job_pool.proofs.FairSteps.{flows_take}
use Rattle.job_pool.proofs.fair_queue.FairQueue.take.Goals as goal

kept : {X : Type 0} (n : ℕ) (x : X) (more : List X) (others q q' : List (FairFlow X)) → q ≡ record { number = n; waiting = x ∷ more } ∷ others → q' ≡ others ++ flow_left n more → AreFairFlows q → AreFairFlows q'
kept n x more others q q' was now flows = flows_take q n x q' (more, others, was, now) flows

pub invariant_of-self-in-Some : goal.invariant_of-self-in-Some
invariant_of-self-in-Some g c =
    kept c.number.inside.number c.in-Some.item c.pop_front-2.new.self.items c.pop_front.new.self.items c.self.inside.flows.items c.put_left.new.flows.items
    (search rules) (search rules) c.self.invariant
