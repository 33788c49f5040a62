-- The first job that is over, among those that are kept.
use Rattle.std.proofs.Common.{◌≡◌, ◌≢◌, ◌⊎◌, ℕ, ◌<◌, List, [], ◌∷◌, Bool, true, false, not, Option, Some, unwrap_or, refl, sym, ap, ◌∙◌, subst, inl, inr, arith}
use Rattle.std.specs.List.{AllByRecursion}
use Rattle.std.specs.List.Sorted.{IsStrictlySortedBy}
use Rattle.std.specs.Map.{lookup, keys_of}
use Rattle.std.specs.Ordering.{nat_cmp}
use Rattle.std.specs.declared.cmp.Ordering.TheVariants.{Less}
use Rattle.std.specs.BTreeMap.{is_at}
use Rattle.std.proofs.lemmas.Cmp.{ranked}
use Rattle.std.proofs.lemmas.Bool.{cases_Bool}
use Rattle.std.proofs.lemmas.Bool.Decides.{nat_tests}
use Rattle.std.proofs.lemmas.Map.Entries.{lookup_head, lookup_tail}
use Rattle.accounts.specs.declared.jobs.JobEntry.{JobEntry}
use Rattle.accounts.specs.Jobs.{is_open}
use Rattle.accounts.specs.Numbered.{AreAllOpen, IsOldest}

abbrev pub find_in : List (ℕ × JobEntry) → ℕ → Option JobEntry
find_in es n = lookup (is_at (nat_cmp n)) es

-- all that were looked at are open, and the rest is still in order
pub record AreScanned (all rest : List (ℕ × JobEntry)) : Type 0 where
  pub sorted : IsStrictlySortedBy nat_cmp (keys_of rest)
  pub from : (n : ℕ) (e : JobEntry) → find_in rest n ≡ Some e → find_in all n ≡ Some e
  pub left : (n : ℕ) (e : JobEntry) → find_in all n ≡ Some e → (is_open e.standing ≡ true) ⊎ (find_in rest n ≡ Some e)

pub scanned_none : (all rest : List (ℕ × JobEntry)) → rest ≡ all → IsStrictlySortedBy nat_cmp (keys_of all) → AreScanned all rest
scanned_none all rest same sorted = subst (AreScanned all) (sym same) (record {
  sorted = sorted;
  from = λ n e at. at;
  left = λ n e at. inr at;
})

hit_is : (m n : ℕ) → is_at (nat_cmp m) n ≡ true → m ≡ n
hit_is m n hit = grind (arith, nat_tests)

hits : (n : ℕ) → is_at (nat_cmp n) n ≡ true
hits n = grind (arith, nat_tests)

misses : (m n : ℕ) → m ≢ n → is_at (nat_cmp m) n ≡ false
misses m n apart = by (cases_Bool (is_at (nat_cmp m) n))
  where
    by : (is_at (nat_cmp m) n ≡ true) ⊎ (is_at (nat_cmp m) n ≡ false) → is_at (nat_cmp m) n ≡ false
    by (inl hit) = absurd (apart (hit_is m n hit))
    by (inr missed) = missed

-- what is found behind a number has a higher one
above : (n m : ℕ) (es : List (ℕ × JobEntry)) (e : JobEntry) → AllByRecursion (λ k. nat_cmp n k ≡ Less) (keys_of es)
    → find_in es m ≡ Some e → n < m
above n m [] e all at = cc
above n m (x ∷ es) e all at = by (cases_Bool (is_at (nat_cmp m) x.0)) (λ missed. above n m es e all.1 (sym (lookup_tail (is_at (nat_cmp m)) x es missed) ∙ at))
  where
    by : (is_at (nat_cmp m) x.0 ≡ true) ⊎ (is_at (nat_cmp m) x.0 ≡ false) → (is_at (nat_cmp m) x.0 ≡ false → n < m) → n < m
    by (inl hit) later =
        let less : n < x.0 = ranked n x.0 Less (sym all.0) in
        let is = hit_is m x.0 hit in
        omega (arith, less, is)
    by (inr missed) later = later missed

module _ (all : List (ℕ × JobEntry)) (number : ℕ) (entry : JobEntry) (more : List (ℕ × JobEntry)) where
  behind : IsStrictlySortedBy nat_cmp (keys_of ((number, entry) ∷ more)) → AllByRecursion (λ k. nat_cmp number k ≡ Less) (keys_of more) × IsStrictlySortedBy nat_cmp (keys_of more)
  unfolding IsStrictlySortedBy
  behind sorted = sorted

  found_here : find_in ((number, entry) ∷ more) number ≡ Some entry
  found_here = lookup_head (is_at (nat_cmp number)) (number, entry) more (hits number)

  by_head : (n : ℕ) (e : JobEntry) → find_in ((number, entry) ∷ more) n ≡ Some e → ((n ≡ number) × (entry ≡ e)) ⊎ (find_in more n ≡ Some e)
  by_head n e at = by (cases_Bool (is_at (nat_cmp n) number))
    where
      by : (is_at (nat_cmp n) number ≡ true) ⊎ (is_at (nat_cmp n) number ≡ false) → ((n ≡ number) × (entry ≡ e)) ⊎ (find_in more n ≡ Some e)
      by (inl hit) = inl (hit_is n number hit, ap (λ o. unwrap_or o entry) (sym (lookup_head (is_at (nat_cmp n)) (number, entry) more hit) ∙ at))
      by (inr missed) = inr (sym (lookup_tail (is_at (nat_cmp n)) (number, entry) more missed) ∙ at)

  -- one more of them is open
  pub scanned_one : AreScanned all ((number, entry) ∷ more) → is_open entry.standing ≡ true → AreScanned all more
  scanned_one s opened = record {
    sorted = (behind s.sorted).1;
    from = λ n e at.
        let more_than = above number n more e (behind s.sorted).0 at in
        s.from n e (lookup_tail (is_at (nat_cmp n)) (number, entry) more (misses n number (λ same. absurd (omega (arith, more_than, same)))) ∙ at);
    left = λ n e at. by n e (s.left n e at);
  }
    where
      by : (n : ℕ) (e : JobEntry) → (is_open e.standing ≡ true) ⊎ (find_in ((number, entry) ∷ more) n ≡ Some e)
          → (is_open e.standing ≡ true) ⊎ (find_in more n ≡ Some e)
      by n e (inl known) = inl known
      by n e (inr at) = then (by_head n e at)
        where
          then : ((n ≡ number) × (entry ≡ e)) ⊎ (find_in more n ≡ Some e) → (is_open e.standing ≡ true) ⊎ (find_in more n ≡ Some e)
          then (inl here) = inl (ap (λ (x : JobEntry). is_open x.standing) (sym here.1) ∙ opened)
          then (inr later) = inr later

  -- the next one is over
  pub oldest : AreScanned all ((number, entry) ∷ more) → is_open entry.standing ≡ false → IsOldest (find_in all) number
  oldest s over = record {
    entry = entry;
    there = s.from number entry found_here;
    over = over;
    first = λ n e less at. by n e less (s.left n e at);
  }
    where
      by : (n : ℕ) (e : JobEntry) → n < number → (is_open e.standing ≡ true) ⊎ (find_in ((number, entry) ∷ more) n ≡ Some e) → is_open e.standing ≡ true
      by n e less (inl known) = known
      by n e less (inr at) = then (by_head n e at)
        where
          then : ((n ≡ number) × (entry ≡ e)) ⊎ (find_in more n ≡ Some e) → is_open e.standing ≡ true
          then (inl here) = let same = here.0 in absurd (omega (arith, less, same))
          then (inr later) = let more_than = above number n more e (behind s.sorted).0 later in absurd (omega (arith, less, more_than))

pub all_open : (all : List (ℕ × JobEntry)) → AreScanned all [] → AreAllOpen (find_in all)
all_open all s n e at = by (s.left n e at)
  where
    by : (is_open e.standing ≡ true) ⊎ (find_in [] n ≡ Some e) → is_open e.standing ≡ true
    by (inl known) = known
    by (inr at) = cc

pub over_so : (b : Bool) → not b ≡ true → b ≡ false
over_so true is = cc
over_so false is = refl

pub open_so : (b : Bool) → not b ≡ false → b ≡ true
open_so true is = refl
open_so false is = cc
