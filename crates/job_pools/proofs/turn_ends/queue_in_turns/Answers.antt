use Rattle.std.proofs.Common.{◌≡◌, ◌≤◌, ◌+◌, ◌∙◌, ◌++◌, ◌∷◌, [], ℕ, List, All, length, subst, sym, ap, arith, rules, length-append}
use Rattle.std.proofs.lemmas.List.Elements.{All-push}
use Rattle.job_pools.specs.Queues.{nothing}
use Rattle.job_pools.specs.declared.queues.Traffic.{Traffic}
use Rattle.job_pools.proofs.turn_ends.queue_in_turns.Goals as goal

longer : (xs ys : List Traffic) (x : Traffic) (n : ℕ) → ys ≡ xs ++ x ∷ [] → length xs ≡ n → length ys ≡ n + 1
longer xs ys x n now was = let one : length (xs ++ x ∷ []) ≡ length xs + 1 = length-append xs (x ∷ []) in ap length now ∙ (one ∙ ap (λ m. m + 1) was)

all_new : (xs ys : List Traffic) (x : Traffic) → ys ≡ xs ++ x ∷ [] → All (λ o. o ≡ nothing) xs → x ≡ nothing → All (λ o. o ≡ nothing) ys
all_new xs ys x now all is = subst (λ (l : List Traffic). All (λ o. o ≡ nothing) l) (sym now) (All-push (λ (o : Traffic). o ≡ nothing) xs x all is)

pub loop-preserved : goal.loop-preserved
loop-preserved g c =
    let was = c.loop.invariant in
    let now = c.push_reserved.ensures.items in
    record {
      count = longer c.loop.outlets.items c.push_reserved.new.self.items c.in_ok-outlet.outlet c.loop.counter now was.count;
      room = subst (λ n. c.args.takers ≤ n) (sym c.push_reserved.ensures.capacity) was.room;
      new = all_new c.loop.outlets.items c.push_reserved.new.self.items c.in_ok-outlet.outlet now was.new c.in_ok-outlet.ensures;
    }
