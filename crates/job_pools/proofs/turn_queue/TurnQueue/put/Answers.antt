use Rattle.std.proofs.Common.{◌≡◌, ◌+◌, ℕ, List, ap, sym, subst, ◌∙◌}
use Rattle.job_pools.specs.Turns.{AreFlows, WaitingFlow, put_behind, waiting_count}
use Rattle.job_pools.proofs.TurnSteps.{flows_put, count_put}
use Rattle.job_pools.proofs.turn_queue.TurnQueue.put.Goals as goal

kept : {X : Type 0} (n : ℕ) (x : X) (q q' : List (WaitingFlow X)) (count : ℕ) → q' ≡ put_behind n x q → AreFlows q → count ≡ waiting_count q → AreFlows q' × (count + 1 ≡ waiting_count q')
kept {X} n x q q' count now flows counted =
    (subst (AreFlows {X = X}) (sym now) (flows_put n x q flows), ap (λ m. m + 1) counted ∙ sym (ap waiting_count now ∙ count_put n x q))

pub invariant_of-self : goal.invariant_of-self
invariant_of-self g c = kept c.args.number c.args.item c.self.inside.flows.items c.put_in_flow.new.flows.items c.self.inside.count c.in-Ok.ensures c.self.invariant.0 c.self.invariant.1
