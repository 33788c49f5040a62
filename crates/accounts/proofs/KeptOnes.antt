-- The accounts of a desk, as they are kept.
use Rattle.std.proofs.Common.{◌≡◌, ◌⊎◌, ℕ, zero, suc, ◌+◌, ◌-◌, ◌≤◌, List, [], ◌∷◌, ◌++◌, map, slice_get, Bool, cond, true, false, Option, Some, None, unwrap_or, Result, Ok, Err, IfOk, OnOk, String, string_bytes, refl, sym, ap, ◌∙◌, subst, inl, inr, arith}
use Rattle.std.proofs.lemmas.Map.Entries.{btree_map_get_place, lookup_tail}
use Rattle.std.proofs.lemmas.Map.Keys.{IsDistinct-from_sorted}
use Rattle.std.proofs.lemmas.Map.Text.{is_eq-slice_cmp}
use Rattle.std.specs.BTreeMap.{BTreeMap}
use Rattle.std.specs.BTreeMap as tree
use Rattle.std.specs.List.{AllByRecursion, IsDistinct}
use Rattle.std.specs.Map.{keys_of, lookup}
use Rattle.std.specs.Ordering.{eq_by_cmp}
use Rattle.std.specs.Str.{bytes_eq}
use Rattle.std.specs.String.{string_cmp, string_cmp_total}
use Rattle.accounts.specs.declared.kept_accounts.KeptAccount.{KeptAccount}
use Rattle.accounts.specs.declared.tenants.Sums.{Sums}
use Rattle.accounts.specs.declared.jobs.JobEntry.{JobEntry}
use Rattle.accounts.specs.Forgetting.{IsGone}
use Rattle.accounts.specs.KeptAccounts.{kept_as, kept_from_sums}
use Rattle.accounts.specs.Ledgers.{Ledger, IsBalanced, IsSummed, granted_by, granted_to, ledger_of, most_granted, opened_by, past_of, spent_before, spent_by_jobs}
use Rattle.accounts.specs.Restoring.{AreKeptAccounts, AreTenantsJobs, IsKeptAccount, grant_kept}
use Rattle.accounts.proofs.Keeping.{IsOwned, bytes_apart, granted_some}
use Rattle.accounts.proofs.Restored.{past_here}

-- ---- an answer of two clauses

pub both_ok : {A E : Type 0} (r : Result A E) (S : Type 0) (P Q : A → Type 0) → ((a : A) → S → P a → Q a) → OnOk r S → IfOk r P → IfOk r Q
both_ok (Ok a) S P Q both s p = both a s p
both_ok (Err e) S P Q both s p = tt

-- ---- lists

same_grants : {Y : Type 0} (accounts : List KeptAccount) (es : List (String Y × Sums)) → map kept_as accounts ≡ map kept_from_sums es
    → map grant_kept accounts ≡ map granted_by es
same_grants [] [] same = refl
same_grants [] (e ∷ es) same = cc
same_grants (a ∷ accounts) [] same = cc
same_grants (a ∷ accounts) (e ∷ es) same =
    let first : kept_as a ≡ kept_from_sums e = cc in
    let rest : map kept_as accounts ≡ map kept_from_sums es = cc in
    ap (λ (t : List ℕ × ℕ × ℕ). (t.0, t.1) ∷ map grant_kept accounts) first ∙ ap (λ gs. granted_by e ∷ gs) (same_grants accounts es rest)

entry_of : {Y : Type 0} (accounts : List KeptAccount) (es : List (String Y × Sums)) → map kept_as accounts ≡ map kept_from_sums es
    → (n : ℕ) (a : KeptAccount) → slice_get accounts n ≡ Some a → (e : String Y × Sums) × (slice_get es n ≡ Some e) × (kept_from_sums e ≡ kept_as a)
entry_of [] es same n a at = cc
entry_of (x ∷ accounts) [] same n a at = cc
entry_of (x ∷ accounts) (e ∷ es) same zero a at =
    let first : kept_as x ≡ kept_from_sums e = cc in
    let is : x ≡ a = cc in
    (e, refl, sym first ∙ ap kept_as is)
entry_of (x ∷ accounts) (e ∷ es) same (suc n) a at =
    let rest : map kept_as accounts ≡ map kept_from_sums es = cc in
    entry_of accounts es rest n a at

-- ---- names

apart_behind : {Y : Type 0} (k : String Y) (es : List (String Y × Sums)) → AllByRecursion (λ y. eq_by_cmp string_cmp k y ≡ false) (keys_of es)
    → AllByRecursion (λ y. bytes_eq (string_bytes k) y ≡ false) (keys_of (map granted_by es))
apart_behind k [] all = tt
apart_behind k (e ∷ es) all = (sym (is_eq-slice_cmp (string_bytes k) (string_bytes e.0)) ∙ all.0, apart_behind k es all.1)

names_differ : {Y : Type 0} (es : List (String Y × Sums)) → IsDistinct (eq_by_cmp string_cmp) (keys_of es) → IsDistinct bytes_eq (keys_of (map granted_by es))
unfolding IsDistinct
names_differ [] d = tt
names_differ (e ∷ es) d = (apart_behind e.0 es d.0, names_differ es d.1)

holds_within : (P : List ℕ → Type 0) (before after : List (List ℕ × ℕ)) (grant : List ℕ × ℕ) → AllByRecursion P (keys_of (before ++ grant ∷ after)) → P grant.0
holds_within P [] after grant all = all.0
holds_within P (b ∷ before) after grant all = holds_within P before after grant all.1

-- where names differ, none is that of one ahead
pub none_ahead : (before after : List (List ℕ × ℕ)) (grant : List ℕ × ℕ) → IsDistinct bytes_eq (keys_of (before ++ grant ∷ after)) → lookup (bytes_eq grant.0) before ≡ None
unfolding IsDistinct
none_ahead [] after grant d = refl
none_ahead (b ∷ before) after grant d =
    let apart : bytes_eq b.0 grant.0 ≡ false = holds_within (λ y. bytes_eq b.0 y ≡ false) before after grant d.0 in
    lookup_tail (bytes_eq grant.0) b before (bytes_apart b.0 grant.0 apart) ∙ none_ahead before after grant d.1

-- ---- all of them

-- who was granted nothing spent nothing
no_past : {Y : Type 0} (jobs : List JobEntry) (q : List ℕ) (es : List (String Y × Sums)) → lookup (bytes_eq q) (map granted_by es) ≡ None → unwrap_or (lookup (bytes_eq q) (map (spent_before jobs) es)) 0 ≡ 0
no_past jobs q [] none = refl
no_past jobs q (e ∷ es) none = by (bytes_eq q (string_bytes e.0)) none (no_past jobs q es)
  where
    by : (b : Bool) → cond b (Some e.1.granted) (lookup (bytes_eq q) (map granted_by es)) ≡ None → (lookup (bytes_eq q) (map granted_by es) ≡ None → unwrap_or (lookup (bytes_eq q) (map (spent_before jobs) es)) 0 ≡ 0)
        → unwrap_or (cond b (Some (e.1.spent - spent_by_jobs jobs (string_bytes e.0))) (lookup (bytes_eq q) (map (spent_before jobs) es))) 0 ≡ 0
    by true some later = absurd cc
    by false none_here later = later none_here

-- what is told of one account
abbrev Tells : Ledger → List ℕ × ℕ × ℕ → Type 0
Tells ledger t =
    (granted_to ledger t.0 ≡ Some t.1)
    × (t.2 ≡ past_of ledger t.0 + spent_by_jobs ledger.jobs t.0)
    × (t.2 + opened_by ledger.jobs t.0 ≤ t.1)
    × (t.1 ≤ most_granted)

module _ {Y : Type 0} (m : BTreeMap (String Y) Sums) (jobs : List JobEntry) (kept : IsBalanced (tree.get_by_text m) jobs) (sorted : tree.IsOrdered string_cmp m) where
  told_of : (n : ℕ) (e : String Y × Sums) → slice_get m.entries n ≡ Some e → Tells (ledger_of m jobs) (kept_from_sums e)
  told_of n e at =
      let found : tree.get_by_text m (string_bytes e.0) ≡ Some e.1 = btree_map_get_place string_cmp_total m n e.0 e.1 sorted at in
      let summed = kept.each (string_bytes e.0) e.1 found in
      let past = past_here m jobs (string_bytes e.0) e.1 found in
      let spent = summed.spent in
      let opened = summed.opened in
      let within = summed.within in
      (granted_some m jobs (string_bytes e.0) e.1 found, omega (arith, past, spent), omega (arith, within, opened), summed.limit)

  owned_jobs : AreTenantsJobs (ledger_of m jobs)
  owned_jobs n entry at = by (kept.owned n entry at)
    where
      by : IsOwned (tree.get_by_text m) entry → IsGone entry ⊎ ((sum : ℕ) × (granted_to (ledger_of m jobs) (string_bytes entry.tenant) ≡ Some sum))
      by (inl gone) = inl gone
      by (inr o) = inr (o.0.granted, granted_some m jobs (string_bytes entry.tenant) o.0 o.1)

  pub kept_ones : (accounts : List KeptAccount) → map kept_as accounts ≡ map kept_from_sums m.entries → AreKeptAccounts (ledger_of m jobs) accounts
  kept_ones accounts same = record {
    grants = same_grants accounts m.entries same;
    once = names_differ m.entries (IsDistinct-from_sorted string_cmp (tree.keys m) sorted);
    each = λ n a at.
        let e = entry_of accounts m.entries same n a at in
        let told = subst (Tells (ledger_of m jobs)) e.2 (told_of n e.0 e.1) in
        record { granted = told.0; spent = told.1; within = told.2; limit = told.3 };
    owned = owned_jobs;
    nobody = λ q none. no_past jobs q m.entries none;
  }
