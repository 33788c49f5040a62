use Rattle.std.proofs.Common.{◌≡◌, ◌+◌, ◌-◌, ◌∙◌, ◌∷◌, ◌++◌, [], ℕ, List, length, arith, ap, sym, subst, rules, refl}
use Rattle.job_pools.specs.Turns.{AreFlows, WaitingFlow, TakesNext, rest_of_flow, waiting_count}
use Rattle.job_pools.proofs.TurnSteps.{flows_take, count_left}
use Rattle.job_pools.proofs.turn_queue.TurnQueue.take.Goals as goal

kept : {X : Type 0} (n : ℕ) (x : X) (more : List X) (others q q' : List (WaitingFlow X)) (count : ℕ) → q ≡ record { number = n; waiting = x ∷ more } ∷ others → q' ≡ others ++ rest_of_flow n more
    → AreFlows q → count ≡ waiting_count q → AreFlows q' × (count - 1 ≡ waiting_count q')
kept n x more others q q' count was now flows counted =
    let before : count ≡ length (x ∷ more) + waiting_count others = counted ∙ ap waiting_count was in
    let after : waiting_count q' ≡ waiting_count others + length more = ap waiting_count now ∙ count_left n more others in
    (flows_take q n x q' (more, others, was, now) flows, omega (arith, before, after))

pub invariant_of-self-in-Some : goal.invariant_of-self-in-Some
invariant_of-self-in-Some g c =
    kept c.number.inside.number c.in-Some.item c.pop_front-2.new.self.items c.pop_front.new.self.items c.self.inside.flows.items c.put_left.new.flows.items c.self.inside.count
    (search rules) (search rules) c.self.invariant.0 c.self.invariant.1
