use Rattle.std.proofs.Common.{◌≡◌, List, sym, subst, Result, Ok, Err, MatchResult}
use Rattle.job_pool.specs.FairTurns.{AreFairFlows, FairFlow, queued_behind}
use Rattle.job_pool.proofs.FairSteps.{flows_put}
use Rattle.job_pool.proofs.fair_queue.FairQueue.put.Goals as goal

kept : {X : Type 0} (n : _) (x : X) (q q' : List (FairFlow X)) (result : Result (Unit {0}) X) → AreFairFlows q
    → MatchResult result (λ _. q' ≡ queued_behind n x q) (λ back. (back ≡ x) × (q' ≡ q)) → AreFairFlows q'
kept {X} n x q q' (Ok u) flows now = subst (AreFairFlows {X = X}) (sym now) (flows_put n x q flows)
kept {X} n x q q' (Err back) flows now = subst (AreFairFlows {X = X}) (sym now.1) flows

pub invariant_of-self : goal.invariant_of-self
invariant_of-self g c = kept c.args.number c.args.item c.self.inside.flows.items c.put_in_flow.new.flows.items c.put_in_flow.result c.self.invariant c.put_in_flow.ensures
