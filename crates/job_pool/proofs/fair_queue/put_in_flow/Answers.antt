use Rattle.std.proofs.Common.{◌≡◌, ◌≢◌, ◌<◌, ◌∙◌, ◌++◌, ◌∷◌, ℕ, [], List, MatchResult, Result, Ok, Err, length, set, sym, ap}
use Rattle.std.specs.Prelude.{slice_index_or}
use Rattle.job_pool.specs.FairTurns.{AreFairFlows, FairFlow, queued_behind}
use Rattle.job_pool.proofs.FairSteps.{put_set, put_end}
use Rattle.job_pool.proofs.fair_queue.put_in_flow.Goals as goal

module _ {X : Type 0} (n : ℕ) (x : X) (q q' : List (FairFlow X)) where
  behind_some : (result : Result (Unit {0}) X) (at : ℕ) → AreFairFlows q → at < length q → ((d : FairFlow X) → (slice_index_or q at d).number ≡ n)
      → MatchResult result (λ _. (old : FairFlow X) × ((d : FairFlow X) → slice_index_or q at d ≡ old) × (q' ≡ set q at (record { number = old.number; waiting = old.waiting ++ x ∷ [] }))) (λ back. (back ≡ x) × (q' ≡ q))
      → MatchResult result (λ _. q' ≡ queued_behind n x q) (λ back. (back ≡ x) × (q' ≡ q))
  behind_some (Ok u) at flows below number put =
      put.2 ∙ sym (put_set n x q at put.0 flows below put.1 (ap (λ (f : FairFlow X). f.number) (sym (put.1 put.0)) ∙ number put.0))
  behind_some (Err back) at flows below number put = put

  behind_all : (result : Result (Unit {0}) X) → ((at : ℕ) (d : FairFlow X) → at < length q → (slice_index_or q at d).number ≢ n)
      → MatchResult result (λ _. q' ≡ q ++ record { number = n; waiting = x ∷ [] } ∷ []) (λ back. (back ≡ x) × (q' ≡ q))
      → MatchResult result (λ _. q' ≡ queued_behind n x q) (λ back. (back ≡ x) × (q' ≡ q))
  behind_all (Ok u) none put = put ∙ sym (put_end n x q none)
  behind_all (Err back) none put = put

pub returns-in-Some : goal.returns-in-Some
returns-in-Some g c =
    behind_some c.args.number c.args.item c.args.flows.now.items c.put_at.new.flows.items c.put_at.result c.in-Some.at
    c.requires c.in-Some.ensures.some.0 c.in-Some.ensures.some.1 c.put_at.ensures

pub returns-in-None : goal.returns-in-None
returns-in-None g c =
    behind_all c.args.number c.args.item c.args.flows.now.items c.put_last.new.flows.items c.put_last.result
    c.in-None.ensures.none c.put_last.ensures
