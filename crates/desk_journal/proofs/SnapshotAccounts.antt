-- The changes of a snapshot restore the desk: its accounts first, then its jobs.
use Rattle.std.proofs.Common.{◌≡◌, ◌⊎◌, ◌+◌, ◌≤◌, ℕ, zero, suc, Vec, Global, Bool, true, false, cond, List, [], ◌∷◌, ◌++◌, length, map, slice_get, Option, Some, None, unwrap_or, refl, sym, ap, subst, ◌∙◌, inl, inr, arith}
use Rattle.std.specs.Prelude.{string_bytes}
use Rattle.std.specs.Cmp.{IsEquivalence}
use Rattle.std.specs.List.{AllByRecursion, AllZip, IsDistinct}
use Rattle.std.specs.Map.{keys_of, lookup, update, update_all}
use Rattle.std.specs.Str.{bytes_eq}
use Rattle.std.proofs.lemmas.Bool.{cases_Bool}
use Rattle.std.proofs.lemmas.Slice.Eq.{bytes_eq-Decides}
use Rattle.std.proofs.lemmas.Map.Made.{update_all_none}
use Rattle.accounts.specs.Forgetting.{IsGone}
use Rattle.accounts.specs.Jobs.{spent_by_job, spent_for}
use Rattle.accounts.specs.Ledgers.{Ledger, granted_to, most_granted, opened_by, past_of, spent_by_jobs}
use Rattle.accounts.specs.Restoring.{AreKeptAccounts, IsKeptAccount, OpensAccount, grant_kept}
use Rattle.accounts.specs.declared.jobs.JobEntry.{JobEntry}
use Rattle.accounts.specs.declared.kept_accounts.KeptAccount.{KeptAccount}
use Rattle.journal.specs.Records.{AllFitRecords}
use Rattle.recovery.specs.Histories.{IsAfter, ReplaysChanges}
use Rattle.compaction.specs.Snapshots.{Restores}
use Rattle.desk_journal.specs.AlikeDesks.{AreDesksAlike, AreEntriesAlike, AreOpenAlike}
use Rattle.desk_journal.specs.DeskChanges.{change_bytes}
use Rattle.desk_journal.specs.DeskSteps.{DeskState, IsNewDesk, MakesBytes}
use Rattle.desk_journal.specs.HeldJobs.{AreHeldFrom}
use Rattle.desk_journal.specs.SnapshotChanges.{AreAccountChanges, AreJobChanges, IsAccountChange}
use Rattle.desk_journal.specs.declared.change.DeskChange.TheVariants.{AccountOpened}
use Rattle.desk_journal.specs.declared.journaled_desk.OpenJob.{OpenJob}
use Rattle.desk_journal.proofs.SameChanges.{account_made}
use Rattle.desk_journal.proofs.SnapshotLead.{IsAt, IsWhole, jobs_lead, spent_gone, sum_two}
use Rattle.desk_journal.proofs.SnapshotOnly.{IsNear, jobs_only}

-- ---- names

eq_sym : (x y : List ℕ) → bytes_eq x y ≡ bytes_eq y x
eq_sym x y = by (bytes_eq x y) (bytes_eq y x) refl refl
  where
    by : (b c : Bool) → bytes_eq x y ≡ b → bytes_eq y x ≡ c → b ≡ c
    by true true p q = refl
    by true false p q = sym ((bytes_eq-Decides y x).1 (sym ((bytes_eq-Decides x y).0 p))) ∙ q
    by false true p q = sym p ∙ (bytes_eq-Decides x y).1 (sym ((bytes_eq-Decides y x).0 q))
    by false false p q = refl

equals : IsEquivalence bytes_eq
equals = record {
  refl = λ x. (bytes_eq-Decides x x).1 refl;
  symm = eq_sym;
  congr = λ x y z same. ap (λ (w : List ℕ). bytes_eq w z) ((bytes_eq-Decides x y).0 same);
}

abbrev name_of : KeptAccount → List ℕ
name_of account = string_bytes account.tenant

-- ---- what the accounts make of a desk

-- what is past behind these accounts
abbrev past_behind : List KeptAccount → (List ℕ → ℕ) → List ℕ → ℕ
past_behind [] p q = p q
past_behind (a ∷ accounts) p q = past_behind accounts (λ r. cond (bytes_eq (name_of a) r) a.spent (p r)) q

-- no job is there yet, and the sums are these
record AreOpened (f : List ℕ → Option ℕ) (p : List ℕ → ℕ) (s : DeskState) : Type 0 where
  grants : (q : List ℕ) → granted_to s.desk q ≡ f q
  past : (q : List ℕ) → past_of s.desk q ≡ p q
  none : s.desk.jobs ≡ []
  no_held : s.held ≡ []

-- each account's sums are within their limits
abbrev AreWithin : List KeptAccount → Type 0
AreWithin accounts = AllByRecursion (λ (a : KeptAccount). (a.spent ≤ a.granted) × (a.granted ≤ most_granted)) accounts

-- nobody has one of these names
abbrev AreFresh : (List ℕ → Option ℕ) → List KeptAccount → Type 0
AreFresh f accounts = AllByRecursion (λ (a : KeptAccount). f (name_of a) ≡ None) accounts

opened_so : (f : List ℕ → Option ℕ) (p : List ℕ → ℕ) (s t : DeskState) (a : KeptAccount) → AreOpened f p s → OpensAccount s.desk (name_of a) a.granted a.spent t.desk → t.held ≡ s.held
    → AreOpened (update bytes_eq f (name_of a) (Some a.granted)) (λ r. cond (bytes_eq (name_of a) r) a.spent (p r)) t
opened_so f p s t a are opens held = record {
  grants = λ q. opens.grants q ∙ ap (λ (o : Option ℕ). cond (bytes_eq (name_of a) q) (Some a.granted) o) (are.grants q);
  past = λ q. opens.past q ∙ ap (λ (n : ℕ). cond (bytes_eq (name_of a) q) a.spent n) (are.past q);
  none = opens.jobs;
  no_held = held ∙ are.no_held;
}

accounts_only : (accounts : List KeptAccount) (payloads : List (List ℕ)) (f : List ℕ → Option ℕ) (p : List ℕ → ℕ) (s u : DeskState) → AreAccountChanges accounts payloads → AllFitRecords payloads → AreWithin accounts
    → AreOpened f p s → ReplaysChanges MakesBytes s payloads u → AreOpened (update_all bytes_eq f (map grant_kept accounts)) (past_behind accounts p) u
accounts_only [] [] f p s u changes fit within are is = subst (λ (x : DeskState). AreOpened f p x) (sym is) are
accounts_only [] (payload ∷ payloads) f p s u changes fit within are steps = absurd changes
accounts_only (a ∷ accounts) [] f p s u changes fit within are steps = absurd changes
accounts_only (a ∷ accounts) (payload ∷ payloads) f p s u changes fit within are (t, made, on) =
    let change = changes.0 in
    let opens = account_made change.tenant a.granted a.spent payload s t fit.0 within.0.0 within.0.1 change.is made in
    let named = subst (λ (n : List ℕ). OpensAccount s.desk n a.granted a.spent t.desk) change.same opens.0 in
    accounts_only accounts payloads (update bytes_eq f (name_of a) (Some a.granted)) (λ r. cond (bytes_eq (name_of a) r) a.spent (p r)) t u changes.1 fit.1 within.1 (opened_so f p s t a are named opens.1) on

-- where a name is no other's, the others stay fresh
stay_fresh : (f : List ℕ → Option ℕ) (a : KeptAccount) (accounts : List KeptAccount) → AllByRecursion (λ y. bytes_eq (name_of a) y ≡ false) (keys_of (map grant_kept accounts)) → AreFresh f accounts
    → AreFresh (update bytes_eq f (name_of a) (Some a.granted)) accounts
stay_fresh f a [] apart fresh = tt
stay_fresh f a (b ∷ accounts) apart fresh =
    (ap (λ (c : Bool). cond c (Some a.granted) (f (name_of b))) apart.0 ∙ fresh.0, stay_fresh f a accounts apart.1 fresh.1)

accounts_lead : (accounts : List KeptAccount) (payloads : List (List ℕ)) (f : List ℕ → Option ℕ) (p : List ℕ → ℕ) (s : DeskState) → AreAccountChanges accounts payloads → AreWithin accounts
    → IsDistinct bytes_eq (keys_of (map grant_kept accounts)) → AreFresh f accounts → AreOpened f p s
    → (t : DeskState) × ReplaysChanges MakesBytes s payloads t × AreOpened (update_all bytes_eq f (map grant_kept accounts)) (past_behind accounts p) t
unfolding IsDistinct
accounts_lead [] [] f p s changes within once fresh are = (s, refl, are)
accounts_lead [] (payload ∷ payloads) f p s changes within once fresh are = absurd changes
accounts_lead (a ∷ accounts) [] f p s changes within once fresh are = absurd changes
accounts_lead (a ∷ accounts) (payload ∷ payloads) f p s changes within once fresh are =
    let change = changes.0 in
    let t : DeskState = record { desk = record { grants = (name_of a, a.granted) ∷ s.desk.grants; past = (name_of a, a.spent) ∷ s.desk.past; jobs = [] }; held = s.held } in
    let opens : OpensAccount s.desk (name_of a) a.granted a.spent t.desk = record {
      early = are.none;
      fresh = are.grants (name_of a) ∙ fresh.0;
      within = within.0.0;
      limit = within.0.1;
      grants = λ q. ap (λ (b : Bool). cond b (Some a.granted) (granted_to s.desk q)) (eq_sym q (name_of a));
      past = λ q. pasts q (bytes_eq q (name_of a)) (bytes_eq (name_of a) q) (eq_sym q (name_of a));
      jobs = refl;
    } in
    let named = subst (λ (n : List ℕ). OpensAccount s.desk n a.granted a.spent t.desk) (sym change.same) opens in
    let rest = accounts_lead accounts payloads (update bytes_eq f (name_of a) (Some a.granted)) (λ r. cond (bytes_eq (name_of a) r) a.spent (p r)) t changes.1 within.1 once.1 (stay_fresh f a accounts once.0 fresh.1) (opened_so f p s t a are opens refl) in
    (rest.0, (t, (AccountOpened change.tenant a.granted a.spent, sym change.is, (named, refl)), rest.1), rest.2)
  where
    pasts : (q : List ℕ) (b c : Bool) → b ≡ c → unwrap_or (cond b (Some a.spent) (lookup (bytes_eq q) s.desk.past)) 0 ≡ cond c a.spent (past_of s.desk q)
    pasts q true true same = refl
    pasts q true false same = cc
    pasts q false true same = cc
    pasts q false false same = refl

-- ---- a desk's accounts

-- what all jobs of a tenant spent
abbrev all_spent : Ledger → List ℕ → ℕ
all_spent ledger q = past_of ledger q + spent_by_jobs ledger.jobs q

past_all : (ledger : Ledger) (accounts : List KeptAccount) (p : List ℕ → ℕ) (q : List ℕ) → AllByRecursion (λ (a : KeptAccount). a.spent ≡ all_spent ledger (name_of a)) accounts
    → (lookup (bytes_eq q) (map grant_kept accounts) ≡ None → p q ≡ all_spent ledger q) → past_behind accounts p q ≡ all_spent ledger q
past_all ledger [] p q each none = none refl
past_all ledger (a ∷ accounts) p q each none =
    past_all ledger accounts (λ r. cond (bytes_eq (name_of a) r) a.spent (p r)) q each.1 (by (bytes_eq (name_of a) q) refl)
  where
    by : (b : Bool) → bytes_eq (name_of a) q ≡ b → lookup (bytes_eq q) (map grant_kept accounts) ≡ None → cond (bytes_eq (name_of a) q) a.spent (p q) ≡ all_spent ledger q
    by true is later =
        let same : name_of a ≡ q = (bytes_eq-Decides (name_of a) q).0 is in
        ap (λ (b : Bool). cond b a.spent (p q)) is ∙ (each.0 ∙ ap (all_spent ledger) same)
    by false is later =
        ap (λ (b : Bool). cond b a.spent (p q)) is
        ∙ none (ap (λ (b : Bool). cond b (Some a.granted) (lookup (bytes_eq q) (map grant_kept accounts))) (eq_sym q (name_of a) ∙ is) ∙ later)

-- of a tenant that isn't there no job spent anything
none_spent : (ledger : Ledger) (jobs : List JobEntry) (q : List ℕ) → ((n : ℕ) (entry : JobEntry) → slice_get jobs n ≡ Some entry → IsGone entry ⊎ ((sum : ℕ) × (granted_to ledger (string_bytes entry.tenant) ≡ Some sum)))
    → granted_to ledger q ≡ None → spent_by_jobs jobs q ≡ 0
unfolding spent_for
none_spent ledger [] q owned none = refl
none_spent ledger (entry ∷ jobs) q owned none =
    let first = of_one (owned zero entry refl) in
    let rest = none_spent ledger jobs q (λ n e at. owned (suc n) e at) none in
    omega (arith, first, rest, sum_two (spent_for q) entry jobs)
  where
    apart : (sum : ℕ) → granted_to ledger (string_bytes entry.tenant) ≡ Some sum → spent_for q entry ≡ 0
    apart sum there = by (bytes_eq q (string_bytes entry.tenant)) refl
      where
        by : (b : Bool) → bytes_eq q (string_bytes entry.tenant) ≡ b → cond b (spent_by_job entry.standing) 0 ≡ 0
        by true is = let clash : None ≡ Some sum = sym none ∙ (ap (granted_to ledger) ((bytes_eq-Decides q (string_bytes entry.tenant)).0 is) ∙ there) in cc
        by false is = refl

    of_one : IsGone entry ⊎ ((sum : ℕ) × (granted_to ledger (string_bytes entry.tenant) ≡ Some sum)) → spent_for q entry ≡ 0
    of_one (inl gone) = spent_gone q entry gone
    of_one (inr t) = apart t.0 t.1

-- a sum that is found is an account's
account_found : (accounts : List KeptAccount) (q : List ℕ) (sum : ℕ) → lookup (bytes_eq q) (map grant_kept accounts) ≡ Some sum
    → (n : ℕ) × (a : KeptAccount) × (slice_get accounts n ≡ Some a) × (name_of a ≡ q) × (a.granted ≡ sum)
account_found [] q sum found = absurd cc
account_found (a ∷ accounts) q sum found = by (bytes_eq q (name_of a)) refl found (account_found accounts q sum)
  where
    by : (b : Bool) → bytes_eq q (name_of a) ≡ b → cond b (Some a.granted) (lookup (bytes_eq q) (map grant_kept accounts)) ≡ Some sum
        → (lookup (bytes_eq q) (map grant_kept accounts) ≡ Some sum → (n : ℕ) × (x : KeptAccount) × (slice_get accounts n ≡ Some x) × (name_of x ≡ q) × (x.granted ≡ sum))
        → (n : ℕ) × (x : KeptAccount) × (slice_get (a ∷ accounts) n ≡ Some x) × (name_of x ≡ q) × (x.granted ≡ sum)
    by true is here later = (zero, a, refl, sym ((bytes_eq-Decides q (name_of a)).0 is), ap (λ (o : Option ℕ). unwrap_or o a.granted) here)
    by false is here later = let t = later here in (suc t.0, t.1, t.2, t.3, t.4)

all_told : (P : KeptAccount → Type 0) (accounts : List KeptAccount) → ((n : ℕ) (a : KeptAccount) → slice_get accounts n ≡ Some a → P a) → AllByRecursion P accounts
all_told P [] each = tt
all_told P (a ∷ accounts) each = (each zero a refl, all_told P accounts (λ n x at. each (suc n) x at))

all_fresh : (accounts : List KeptAccount) → AreFresh (λ q. None) accounts
all_fresh [] = tt
all_fresh (a ∷ accounts) = (refl, all_fresh accounts)

led_on : (changes more : List (List ℕ)) (first s t : DeskState) → ReplaysChanges MakesBytes first changes s → ReplaysChanges MakesBytes s more t → ReplaysChanges MakesBytes first (changes ++ more) t
led_on [] more first s t is rest = subst (λ (x : DeskState). ReplaysChanges MakesBytes x more t) is rest
led_on (change ∷ changes) more first s t one rest = (one.0, one.1, led_on changes more one.0 s t one.2 rest)

led_apart : (changes more : List (List ℕ)) (first t : DeskState) → ReplaysChanges MakesBytes first (changes ++ more) t → (s : DeskState) × ReplaysChanges MakesBytes first changes s × ReplaysChanges MakesBytes s more t
led_apart [] more first t steps = (first, refl, steps)
led_apart (change ∷ changes) more first t steps = let rest = led_apart changes more steps.0 t steps.2 in (rest.0, (steps.0, steps.1, rest.1), rest.2)

module _ (m : DeskState) (accounts : List KeptAccount) (kept : AreKeptAccounts m.desk accounts) where
  whole : IsWhole m
  whole = record {
    within = λ q granted there.
        let t = account_found accounts q granted (ap (lookup (bytes_eq q)) kept.grants ∙ there) in
        let k = kept.each t.0 t.1 t.2 in
        let within = k.within in
        let spent = k.spent in
        let same_spent = ap (all_spent m.desk) t.3 in
        let same_opened = ap (opened_by m.desk.jobs) t.3 in
        let sum = t.4 in
        omega (arith, within, spent, same_spent, same_opened, sum);
    owned = kept.owned;
  }

  within_all : AreWithin accounts
  within_all = all_told (λ (a : KeptAccount). (a.spent ≤ a.granted) × (a.granted ≤ most_granted)) accounts (λ n a at. let k = kept.each n a at in let within = k.within in (omega (arith, within), k.limit))

  once_all : IsDistinct bytes_eq (keys_of (map grant_kept accounts))
  once_all = subst (λ (g : List (List ℕ × ℕ)). IsDistinct bytes_eq (keys_of g)) (sym kept.grants) kept.once

  granted_all : (q : List ℕ) → update_all bytes_eq (λ r. None) (map grant_kept accounts) q ≡ granted_to m.desk q
  granted_all q = update_all_none equals bytes_eq (λ x y. refl) (map grant_kept accounts) q once_all ∙ ap (lookup (bytes_eq q)) kept.grants

  spent_all : (q : List ℕ) → past_behind accounts (λ r. 0) q ≡ all_spent m.desk q
  spent_all q = past_all m.desk accounts (λ r. 0) q (all_told (λ (a : KeptAccount). a.spent ≡ all_spent m.desk (name_of a)) accounts (λ n a at. (kept.each n a at).spent)) none
    where
      none : lookup (bytes_eq q) (map grant_kept accounts) ≡ None → 0 ≡ all_spent m.desk q
      none is =
          let nobody : granted_to m.desk q ≡ None = ap (lookup (bytes_eq q)) (sym kept.grants) ∙ is in
          let past = kept.nobody q nobody in
          let spent = none_spent m.desk m.desk.jobs q kept.owned nobody in
          omega (arith, past, spent)

  new_opened : (s : DeskState) → IsNewDesk s → AreOpened (λ r. None) (λ r. 0) s
  new_opened s new = subst (λ (p : Ledger × List OpenJob). AreOpened (λ r. None) (λ r. 0) (record { desk = p.0; held = p.1 })) (λ k. (sym new.0 k, sym new.1 k)) (record { grants = λ q. refl; past = λ q. refl; none = refl; no_held = refl })

  pub restores : (sources : List (Vec ℕ Global)) (opening payloads : List (List ℕ)) → AreAccountChanges accounts opening → AreJobChanges m.desk.jobs sources payloads → AreHeldFrom 1 m.desk.jobs m.held sources
      → AllFitRecords opening → AllFitRecords payloads → Restores IsNewDesk MakesBytes AreDesksAlike (opening ++ payloads) m
  restores sources opening payloads changes jobs held fit fits = record { reaches = reaches; only = only }
    where
      first : DeskState
      first = record { desk = record { grants = []; past = []; jobs = [] }; held = [] }

      opened : (t : DeskState) × ReplaysChanges MakesBytes first opening t × AreOpened (update_all bytes_eq (λ r. None) (map grant_kept accounts)) (past_behind accounts (λ r. 0)) t
      opened = accounts_lead accounts opening (λ r. None) (λ r. 0) first changes within_all once_all (all_fresh accounts) (new_opened first (refl, refl))

      at : IsAt m whole [] m.desk.jobs [] opened.0
      at = record {
        jobs_are = opened.2.none;
        held_are = opened.2.no_held;
        grants = λ q. opened.2.grants q ∙ granted_all q;
        past = λ q. opened.2.past q ∙ spent_all q;
      }

      reaches : IsAfter IsNewDesk MakesBytes (opening ++ payloads) m
      reaches = (first, (refl, refl), led_on opening payloads first opened.0 m opened.1 (jobs_lead m whole [] m.desk.jobs [] m.held sources payloads 1 opened.0 jobs held refl refl refl at))

      only : (other : DeskState) → IsAfter IsNewDesk MakesBytes (opening ++ payloads) other → AreDesksAlike other m
      only other after =
          let parts = led_apart opening payloads after.0 other after.2 in
          let mid = accounts_only accounts opening (λ r. None) (λ r. 0) after.0 parts.0 changes fit within_all (new_opened after.0 after.1) parts.1 in
          jobs_only m [] m.desk.jobs [] m.held sources payloads 1 parts.0 other jobs held refl refl refl fits
          (record {
            jobs_are = subst (λ (js : List JobEntry). AllZip AreEntriesAlike js []) (sym mid.none) tt;
            held_are = subst (λ (h : List OpenJob). AllZip AreOpenAlike h []) (sym mid.no_held) tt;
            grants = λ q. mid.grants q ∙ granted_all q;
            past = λ q. mid.past q ∙ spent_all q;
          }) parts.2
