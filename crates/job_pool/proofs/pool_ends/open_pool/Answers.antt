use Rattle.std.proofs.Common.{◌≡◌, ◌≤◌, ◌+◌, ◌∙◌, ◌++◌, ◌∷◌, [], ℕ, List, All, length, subst, sym, ap, length-append}
use Rattle.std.proofs.lemmas.List.Elements.{All-push}
use Rattle.seat_log.specs.Seated.{SeatPart}
use Rattle.job_pool.specs.declared.pool_step.PoolStep.{PoolStep}
use Rattle.job_pool.proofs.pool_ends.open_pool.Goals as goal

longer : (xs ys : List (SeatPart PoolStep)) (x : SeatPart PoolStep) (n : ℕ) → ys ≡ xs ++ x ∷ [] → length xs ≡ n → length ys ≡ n + 1
longer xs ys x n now was = let one : length (xs ++ x ∷ []) ≡ length xs + 1 = length-append xs (x ∷ []) in ap length now ∙ (one ∙ ap (λ m. m + 1) was)

all_new : (xs ys : List (SeatPart PoolStep)) (x : SeatPart PoolStep) → ys ≡ xs ++ x ∷ [] → All (λ w. w.part ≡ []) xs → x.part ≡ [] → All (λ w. w.part ≡ []) ys
all_new xs ys x now all is = subst (λ (l : List (SeatPart PoolStep)). All (λ w. w.part ≡ []) l) (sym now) (All-push (λ (w : SeatPart PoolStep). w.part ≡ []) xs x all is)

pub loop-preserved : goal.loop-preserved
loop-preserved g c =
    let was = c.loop.invariant in
    let now = c.push_reserved.ensures.items in
    record {
      count = longer c.loop.ends.items c.push_reserved.new.self.items c.in_ok-worker.worker c.loop.counter now was.count;
      room = subst (λ n. c.args.workers ≤ n) (sym c.push_reserved.ensures.capacity) was.room;
      new = all_new c.loop.ends.items c.push_reserved.new.self.items c.in_ok-worker.worker now was.new c.in_ok-worker.ensures;
    }
