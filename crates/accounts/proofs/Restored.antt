-- What a desk keeps while it is put together again.
use Rattle.std.proofs.Common.{◌≡◌, ◌⊎◌, ℕ, zero, suc, ◌+◌, ◌-◌, ◌≤◌, ◌<◌, List, [], ◌∷◌, ◌++◌, All, length, map, sum_by, slice_get, Bool, true, false, cond, if◌then◌else◌, Option, Some, None, is_some, option_map, unwrap_or, String, string_bytes, refl, sym, ap, ◌∙◌, subst, inl, inr, arith}
use Rattle.std.proofs.lemmas.Bool.{cases_Bool}
use Rattle.std.proofs.lemmas.List.{nil_from_length}
use Rattle.std.proofs.lemmas.List.Sums.{sum_by_push}
use Rattle.std.proofs.lemmas.Slice.Eq.{bytes_eq-Decides}
use Rattle.std.specs.BTreeMap.{BTreeMap}
use Rattle.std.specs.BTreeMap as tree
use Rattle.std.specs.Map.{update}
use Rattle.std.specs.Str.{bytes_eq}
use Rattle.accounts.specs.declared.tenants.Sums.{Sums}
use Rattle.accounts.specs.declared.jobs.JobEntry.{JobEntry}
use Rattle.accounts.specs.declared.jobs.JobStanding.{JobStanding}
use Rattle.accounts.specs.Forgetting.{IsGone, IsJobOver}
use Rattle.accounts.specs.Jobs.{is_open, spent_by_job, spent_for, opened_for}
use Rattle.accounts.specs.Ledgers.{IsBalanced, IsSummed, granted_to, ledger_of, most_granted, opened_by, past_of, spent_by_jobs}
use Rattle.accounts.specs.Restoring.{OpensAccount, Recalls}
use Rattle.accounts.proofs.GoneRuns.{gone_at, gone_sum}
use Rattle.accounts.proofs.Keeping.{IsOwned, IsUpdated, bytes_apart, first_sums, get_pushed, granted-map, granted_none, granted_some, grants_same, kept_by, opened_apart, opened_gone, opened_own, option_map_cond, over_zero, past-map, past_in, spent_apart, spent_gone, spent_own, stays_owned, updated_cases, updated_here}

-- ---- forgotten jobs are added

get_appended : {X : Type 0} (xs ys : List X) (n : ℕ) (y : X) → slice_get (xs ++ ys) n ≡ Some y
    → (slice_get xs n ≡ Some y) ⊎ ((m : ℕ) × (slice_get ys m ≡ Some y))
get_appended [] ys n y at = inr (n, at)
get_appended (x ∷ xs) ys zero y at = inl at
get_appended (x ∷ xs) ys (suc n) y at = get_appended xs ys n y at

module _ (jobs gone : List JobEntry) (are : All IsGone gone) where
  opened_run : (q : List ℕ) → opened_by (jobs ++ gone) q ≡ opened_by jobs q
  opened_run q = gone_sum (opened_for q) (opened_gone q) jobs gone are

  pub spent_run : (q : List ℕ) → spent_by_jobs (jobs ++ gone) q ≡ spent_by_jobs jobs q
  spent_run q = gone_sum (spent_for q) (spent_gone q) jobs gone are

  pub kept_run : (sums : List ℕ → Option Sums) → IsBalanced sums jobs → IsBalanced sums (jobs ++ gone)
  kept_run sums kept = record {
    each = λ q s found.
        let was = kept.each q s found in
        let spent = spent_run q in
        let less = was.spent in
        record { opened = was.opened ∙ sym (opened_run q); spent = omega (arith, less, spent); within = was.within; limit = was.limit };
    owned = λ n entry at. by n entry (get_appended jobs gone n entry at);
  }
    where
      by : (n : ℕ) (entry : JobEntry) → (slice_get jobs n ≡ Some entry) ⊎ ((m : ℕ) × (slice_get gone m ≡ Some entry)) → IsOwned sums entry
      by n entry (inl there) = kept.owned n entry there
      by n entry (inr g) = inl (gone_at gone are g.0 entry g.1)

  pub past_run : {Y : Type 0} (m : BTreeMap (String Y) Sums) (q : List ℕ) → past_of (ledger_of m (jobs ++ gone)) q ≡ past_of (ledger_of m jobs) q
  past_run m q = past-map m (jobs ++ gone) q ∙ by (tree.get_by_text m q) ∙ sym (past-map m jobs q)
    where
      by : (o : Option Sums) → past_in (jobs ++ gone) q o ≡ past_in jobs q o
      by None = refl
      by (Some s) = ap (λ k. s.spent - k) (spent_run q)

-- ---- an account is opened

pub no_jobs : (jobs : List JobEntry) (count : ℕ) → count ≡ length jobs → count ≤ 0 → jobs ≡ []
no_jobs jobs count is none = nil_from_length jobs (omega (arith, is, none))

pub found_one : (o : Option Sums) (b : Bool) (name : List ℕ) {Y : Type 0} (m : BTreeMap (String Y) Sums) (jobs : List JobEntry) → o ≡ tree.get_by_text m name
    → b ≡ is_some o → b ≡ true → (sum : ℕ) × (granted_to (ledger_of m jobs) name ≡ Some sum)
found_one None b name m jobs is test some = let clash : true ≡ false = sym some ∙ test in absurd cc
found_one (Some s) b name m jobs is test some = (s.granted, granted_some m jobs name s (sym is))

pub none_found : (o : Option Sums) (b : Bool) (name : List ℕ) {Y : Type 0} (m : BTreeMap (String Y) Sums) (jobs : List JobEntry) → o ≡ tree.get_by_text m name
    → b ≡ is_some o → b ≡ false → granted_to (ledger_of m jobs) name ≡ None
none_found None b name m jobs is test none = granted_none m jobs name (sym is)
none_found (Some s) b name m jobs is test none = let clash : true ≡ false = sym test ∙ none in absurd cc

module _ {Y : Type 0} (m n : BTreeMap (String Y) Sums) (jobs : List JobEntry) (early : jobs ≡ []) (name : List ℕ) (granted spent : ℕ)
    (is : IsUpdated (tree.get_by_text m) name (first_sums granted spent) (tree.get_by_text n)) where
  opened_grants : (q : List ℕ) → granted_to (ledger_of n jobs) q ≡ update bytes_eq (granted_to (ledger_of m jobs)) name (Some granted) q
  opened_grants q =
      granted-map n jobs q ∙ ap (option_map (λ s. s.granted)) (is q)
      ∙ option_map_cond (λ s. s.granted) (bytes_eq name q) (Some (first_sums granted spent)) (tree.get_by_text m q)
      ∙ ap (cond (bytes_eq name q) (Some granted)) (sym (granted-map m jobs q))

  none_spent : (q : List ℕ) → spent_by_jobs jobs q ≡ 0
  none_spent q = ap (λ js. spent_by_jobs js q) early

  opened_past : (q : List ℕ) → past_of (ledger_of n jobs) q ≡ (if bytes_eq name q then spent else past_of (ledger_of m jobs) q)
  opened_past q = past-map n jobs q ∙ ap (past_in jobs q) (is q) ∙ by (bytes_eq name q)
    where
      by : (b : Bool) → past_in jobs q (cond b (Some (first_sums granted spent)) (tree.get_by_text m q)) ≡ (if b then spent else past_of (ledger_of m jobs) q)
      by true = let none = none_spent q in omega (arith, none)
      by false = sym (past-map m jobs q)

  pub opens : granted_to (ledger_of m jobs) name ≡ None → spent ≤ granted → granted ≤ most_granted → OpensAccount (ledger_of m jobs) name granted spent (ledger_of n jobs)
  opens fresh within limit = record {
    early = early;
    fresh = fresh;
    within = within;
    limit = limit;
    grants = opened_grants;
    past = opened_past;
    jobs = early;
  }

-- ---- a job is recalled

pub past_here : {Y : Type 0} (m : BTreeMap (String Y) Sums) (jobs : List JobEntry) (name : List ℕ) (s : Sums) → tree.get_by_text m name ≡ Some s
    → past_of (ledger_of m jobs) name ≡ s.spent - spent_by_jobs jobs name
past_here m jobs name s found = past-map m jobs name ∙ ap (past_in jobs name) found

module _ (jobs : List JobEntry) (entry : JobEntry) (name : List ℕ) (s : Sums) (recallable : ℕ) (own : string_bytes entry.tenant ≡ name) (over : IsJobOver entry)
    (enough : recallable + spent_by_job entry.standing + spent_by_jobs jobs name ≤ s.spent) where
  apart_from : (q : List ℕ) → bytes_eq name q ≡ false → bytes_eq q (string_bytes entry.tenant) ≡ false
  apart_from q apart = ap (bytes_eq q) own ∙ bytes_apart name q apart

  spent_more : (q : List ℕ) → spent_by_jobs (jobs ++ entry ∷ []) q ≡ spent_by_jobs jobs q + spent_for q entry
  spent_more q = sum_by_push (spent_for q) jobs entry

  pub kept_recalled : (sums after : List ℕ → Option Sums) → IsBalanced sums jobs → sums name ≡ Some s
      → IsUpdated sums name (record s { recallable = recallable }) after → IsBalanced after (jobs ++ entry ∷ [])
  kept_recalled sums after kept found is =
      let was = kept.each name s found in
      let opened_sum = sum_by_push (opened_for name) jobs entry in
      let none = over_zero name entry over in
      let opened_was = was.opened in
      let spent_sum = spent_more name in
      let cost = spent_own name entry own in
      kept_by sums name _ after (jobs ++ entry ∷ []) is
      (record {
        opened = omega (arith, opened_was, none, opened_sum);
        spent = omega (arith, enough, cost, spent_sum);
        within = was.within;
        limit = was.limit;
      })
      (λ q t apart at.
      let old = kept.each q t at in
      let opened_old = old.opened in
      let spent_old = old.spent in
      let opened_here = opened_apart q entry (apart_from q apart) in
      let spent_here = spent_apart q entry (apart_from q apart) in
      let opened_all = sum_by_push (opened_for q) jobs entry in
      let spent_all = spent_more q in
      record {
        opened = omega (arith, opened_old, opened_here, opened_all);
        spent = omega (arith, spent_old, spent_here, spent_all);
        within = old.within;
        limit = old.limit;
      })
      (λ n e at. owned n e (get_pushed jobs entry n e at))
    where
      owned : (n : ℕ) (e : JobEntry) → (slice_get jobs n ≡ Some e) ⊎ (entry ≡ e) → IsOwned after e
      owned n e (inl before) = stays_owned sums name _ after is e (kept.owned n e before)
      owned n e (inr same) = inr (_, ap after (ap (λ v. string_bytes v.tenant) (sym same) ∙ own) ∙ updated_here sums name _ after is)

  module _ {Y : Type 0} (m n : BTreeMap (String Y) Sums) (found : tree.get_by_text m name ≡ Some s)
      (is : IsUpdated (tree.get_by_text m) name (record s { recallable = recallable }) (tree.get_by_text n)) where
    past_less : (q : List ℕ) → past_of (ledger_of n (jobs ++ entry ∷ [])) q + spent_for q entry ≡ past_of (ledger_of m jobs) q
    past_less q =
        let now = past-map n (jobs ++ entry ∷ []) q in
        let was = past-map m jobs q in
        let change = by (updated_cases (tree.get_by_text m) name (record s { recallable = recallable }) (tree.get_by_text n) is q) in
        omega (arith, now, was, change)
      where
        others : (o : Option Sums) → spent_for q entry ≡ 0 → past_in (jobs ++ entry ∷ []) q o + spent_for q entry ≡ past_in jobs q o
        others None none = omega (arith, none)
        others (Some t) none = let all = spent_more q in omega (arith, none, all)

        by : ((name ≡ q) × (tree.get_by_text n q ≡ Some (record s { recallable = recallable }))) ⊎ ((bytes_eq name q ≡ false) × (tree.get_by_text n q ≡ tree.get_by_text m q))
            → past_in (jobs ++ entry ∷ []) q (tree.get_by_text n q) + spent_for q entry ≡ past_in jobs q (tree.get_by_text m q)
        by (inl here) =
            let P : List ℕ → Type 0 = λ k. s.spent - spent_by_jobs (jobs ++ entry ∷ []) k + spent_for k entry ≡ s.spent - spent_by_jobs jobs k in
            let all = spent_more name in
            let cost = spent_own name entry own in
            let at_name : P name = omega (arith, all, cost, enough) in
            ap (λ o. past_in (jobs ++ entry ∷ []) q o + spent_for q entry) here.1 ∙ subst P here.0 at_name
            ∙ sym (ap (past_in jobs q) (ap (tree.get_by_text m) (sym here.0) ∙ found))
        by (inr other) =
            ap (λ o. past_in (jobs ++ entry ∷ []) q o + spent_for q entry) other.1
            ∙ others (tree.get_by_text m q) (spent_apart q entry (apart_from q other.0))

    pub recalls : (credit : ℕ) (standing : JobStanding) → entry.credit ≡ credit → entry.standing ≡ standing
        → Recalls (ledger_of m jobs) name credit standing (ledger_of n (jobs ++ entry ∷ []))
    recalls credit standing credited stands = record {
      entry = entry;
      tenant = own;
      credited = credited;
      stands = stands;
      over = over;
      known = (s.granted, granted_some m jobs name s found);
      grants = grants_same m n jobs (jobs ++ entry ∷ []) name s (record s { recallable = recallable }) found refl is;
      past = past_less;
      jobs = refl;
    }
