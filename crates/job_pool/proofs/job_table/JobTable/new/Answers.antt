use Rattle.std.proofs.Common.{◌≡◌, ◌≤◌, ◌+◌, ◌∙◌, ◌++◌, ◌∷◌, [], ℕ, List, length, subst, sym, ap, rules, length-append}
use Rattle.std.specs.BTreeMap.{BTreeMap}
use Rattle.job_pool.specs.Holdings.{SeenJob}
use Rattle.job_pool.proofs.Desks.{AreFresh, fresh_more, fresh_table, no_held}
use Rattle.job_pool.proofs.job_table.JobTable.new.Goals as goal

longer : (xs ys : List (BTreeMap ℕ SeenJob)) (x : BTreeMap ℕ SeenJob) (n : ℕ) → ys ≡ xs ++ x ∷ [] → length xs ≡ n → length ys ≡ n + 1
longer xs ys x n now was = let one : length (xs ++ x ∷ []) ≡ length xs + 1 = length-append xs (x ∷ []) in ap length now ∙ (one ∙ ap (λ m. m + 1) was)

pub loop-preserved : goal.loop-preserved
loop-preserved g c =
    let was = c.loop.invariant in
    let now = c.push_reserved.ensures.items in
    record {
      count = longer c.loop.made.items c.push_reserved.new.self.items c.new.result c.loop.counter now was.count;
      room = subst (λ n. c.args.desks ≤ n) (sym c.push_reserved.ensures.capacity) was.room;
      fresh = subst AreFresh (sym now) (fresh_more c.loop.made.items c.new.result was.fresh (search rules) c.new.ensures.len);
    }

pub invariant_of-result : goal.invariant_of-result
invariant_of-result g c =
    let fresh = fresh_table c.loop.made.items c.loop.invariant.fresh in
    record { counted = sym fresh.all; named = λ id held found. absurd (no_held _ held (fresh.jobs id) found) }

pub returns : goal.returns
returns g c =
    let count = c.loop.invariant.count in
    (count ∙ (search rules), fresh_table c.loop.made.items c.loop.invariant.fresh)
