use Rattle.std.proofs.Common.{◌≡◌, ◌∙◌, ℕ, Option, None, Some, is_some, false, true≢false, ap, refl, rules, sym, inr}
use Rattle.std.specs.BTreeMap as tree
use Rattle.std.specs.Ordering.{nat_cmp}
use Rattle.job_pools.specs.Queues.{with_taken}
use Rattle.job_pools.specs.Started.{pooled_at, started_at}
use Rattle.job_pools.specs.declared.job_seats.StartedJob.{StartedJob}
use Rattle.job_pools.proofs.Pooled.{gives_job, held_none, some_of}
use Rattle.job_pools.proofs.lasting_pool.LastingPoolRunner.take.Goals as goal

pub returns-clause-takes : goal.returns-clause-takes
returns-clause-takes g c =
    let was = c.args.self.now in
    let parts = c.into_parts-number in
    let there = some_of _ (search rules) in (
      gives_job was.keeper c.find.new.keeper was.boards c.forget.new.values parts.result.0 parts.result.2 parts.result.1 there.0
          c.find.ensures.same parts.ensures.1 c.find.ensures.found there.1 parts.ensures.2 c.forget.ensures.gone c.forget.ensures.others c.forget.ensures.count,
      (
        parts.result.2.job,
        c.in_ok-ended.ensures ∙ ap (with_taken was.ended) (sym parts.ensures.0 ∙ (λ i. record { number = parts.ensures.1 i; job = parts.result.2.job })),
      ),
    )

none_of : {X : Type 0} (o : Option X) → false ≡ is_some o → o ≡ None
none_of None e = refl
none_of (Some x) e = absurd (true≢false (sym e))

nothing_is : {X : Type 0} (o : Option X) (x : X) → o ≡ None → o ≡ Some x → ⊥
nothing_is o x none some = cc

pub returns-then-not-contains_key-clause-takes : goal.returns-then-not-contains_key-clause-takes
returns-then-not-contains_key-clause-takes g c =
    let was = c.args.self.now in
    let parts = c.into_parts-number in
    let n : ℕ = parts.result.0 in
    let ended : StartedJob = c.in_ok-ended.ended in
    let numbered : ended.number ≡ n = ap (λ (s : StartedJob). s.number) (sym parts.ensures.0) ∙ parts.ensures.1 in
    let gone : tree.get nat_cmp was.boards n ≡ None = none_of (tree.get nat_cmp was.boards n) c.if-not-contains_key.ensures in
    let moved : (m : ℕ) → m ≡ n → pooled_at (was.keeper, was.boards) m ≡ pooled_at (was.keeper, was.boards) n = λ m e. ap (λ (k : ℕ). pooled_at (was.keeper, was.boards) k) e in
    let free : pooled_at (was.keeper, was.boards) n ≡ None = held_none (started_at n was.keeper) n (tree.get nat_cmp was.boards n) gone in (
      rw c.find.ensures.same (record { each = λ m. refl; count = refl }),
      inr (
        ended,
        λ held. nothing_is (pooled_at (was.keeper, was.boards) n) held.0 free (sym (moved ended.number numbered) ∙ held.1),
        c.in_ok-ended.ensures,
      ),
    )
