-- The last job of a desk that forgets.
use Rattle.std.proofs.Common.{◌≡◌, ◌⊎◌, ℕ, zero, suc, ◌+◌, ◌-◌, ◌≤◌, ◌<◌, List, [], ◌∷◌, ◌++◌, length, slice_get, Some, refl, sym, ap, ◌∙◌, subst, inl, inr, arith}
use Rattle.std.proofs.lemmas.Bool.{cases_lt}
use Rattle.std.proofs.lemmas.Option.{slice_get_within}
use Rattle.accounts.specs.declared.jobs.JobEntry.{JobEntry}
use Rattle.accounts.specs.declared.keep_limits.KeepLimits.{KeepLimits}
use Rattle.accounts.specs.Forgetting.{ForgetsJobs}
use Rattle.accounts.specs.Limits.{Exceeds, IsNeeded, IsKeptWithin, bytes_held, bytes_in, keeps_all}
use Rattle.accounts.specs.Ledgers.{Ledger, KeepsWithin}
use Rattle.accounts.proofs.Keeping.{job_there}
use Rattle.accounts.proofs.Listed.{same_some}

pushed_get : {X : Type 0} (xs : List X) (y : X) → slice_get (xs ++ y ∷ []) (length xs) ≡ Some y
pushed_get [] y = refl
pushed_get (x ∷ xs) y = pushed_get xs y

pushed_long : {X : Type 0} (xs : List X) (y : X) → length (xs ++ y ∷ []) ≡ suc (length xs)
pushed_long [] y = refl
pushed_long (x ∷ xs) y = ap suc (pushed_long xs y)

ends_with : {X : Type 0} (xs : List X) (n : ℕ) (x : X) → length xs ≡ suc n → slice_get xs n ≡ Some x → (front : List X) × (xs ≡ front ++ x ∷ [])
ends_with [] n x long at = absurd (omega (arith, long))
ends_with (y ∷ []) zero x long at = ([], ap (λ z. z ∷ []) (same_some y x at))
ends_with (y ∷ z ∷ ys) zero x long at = absurd (omega (arith, long))
ends_with (y ∷ ys) (suc n) x long at =
    let later = ends_with ys n x (omega (arith, long)) at in
    (y ∷ later.0, ap (λ zs. y ∷ zs) later.1)

module _ (limits : KeepLimits) (old : List JobEntry) (ahead : ℕ) (new : List JobEntry) (f : ForgetsJobs old ahead new) (within : IsKeptWithin limits old ahead new)
    (front : List JobEntry) (entry : JobEntry) (is : old ≡ front ++ entry ∷ []) (none : bytes_in entry.standing ≡ 0) where
  there_before : slice_get old (length front) ≡ Some entry
  there_before = ap (λ es. slice_get es (length front)) is ∙ pushed_get front entry

  long_before : length old ≡ suc (length front)
  long_before = ap length is ∙ pushed_long front entry

  as_it_was : ahead ≤ length front → slice_get new (length front) ≡ Some entry
  as_it_was few = f.same (length front) entry there_before (inl few)

  by_bytes : (n : IsNeeded limits old ahead new) → 1 ≤ limits.bytes → limits.bytes < bytes_held new + bytes_in n.entry.standing
      → (ahead ≤ length front) ⊎ (length front < ahead) → slice_get new (length front) ≡ Some entry
  by_bytes n some over (inl few) = as_it_was few
  by_bytes n some over (inr more) =
      let there = job_there old ahead n.entry n.at in
      let lt = slice_get_within old (ahead - 1) n.entry there.1 in
      let long = long_before in
      let place : ahead - 1 ≡ length front = omega (arith, lt, long, more) in
      let same : entry ≡ n.entry = same_some entry n.entry (sym there_before ∙ ap (slice_get old) (sym place) ∙ there.1) in
      let nothing : bytes_in n.entry.standing ≡ 0 = ap (λ (e : JobEntry). bytes_in e.standing) (sym same) ∙ none in
      let small = within.small some in
      absurd (omega (arith, over, nothing, small))

  by_why : (n : IsNeeded limits old ahead new) → Exceeds limits ahead (length old) (bytes_held new + bytes_in n.entry.standing) → slice_get new (length front) ≡ Some entry
  by_why n (inl jobs) =
      let some = jobs.0 in
      let few = jobs.1 in
      let long = long_before in
      as_it_was (omega (arith, some, few, long))
  by_why n (inr bytes) = by_bytes n bytes.0 bytes.1 (turn (cases_lt (length front) ahead))
    where
      turn : (length front < ahead) ⊎ (ahead ≤ length front) → (ahead ≤ length front) ⊎ (length front < ahead)
      turn (inl more) = inr more
      turn (inr few) = inl few

  by_need : (ahead ≡ 0) ⊎ IsNeeded limits old ahead new → slice_get new (length front) ≡ Some entry
  by_need (inl zero_of) = as_it_was (omega (arith, zero_of))
  by_need (inr n) = by_why n n.why

  -- a last job without a report stays
  pub last_left : (before : List JobEntry) × (new ≡ before ++ entry ∷ [])
  last_left = ends_with new (length front) entry (f.count ∙ long_before) (by_need within.needed)

-- where nothing is bounded, nothing changes
pub all_kept : (old new : Ledger) → KeepsWithin keeps_all old new → new ≡ old
all_kept old new keeps = keeps.1.same (none keeps.1.within.needed)
  where
    by : (held : ℕ) → Exceeds keeps_all keeps.0 (length old.jobs) held → keeps.0 ≡ 0
    by held (inl t) = let some = t.0 in absurd (omega (arith, some))
    by held (inr t) = let some = t.0 in absurd (omega (arith, some))

    none : (keeps.0 ≡ 0) ⊎ IsNeeded keeps_all old.jobs keeps.0 new.jobs → keeps.0 ≡ 0
    none (inl is) = is
    none (inr n) = by _ n.why
