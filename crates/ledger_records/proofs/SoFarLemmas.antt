-- One row more of a desk that is put together from records.
use Rattle.std.proofs.Common.{◌≡◌, ◌≢◌, ◌⊎◌, ◌+◌, ◌-◌, ◌<◌, ◌≤◌, ◌==◌, ℕ, zero, suc, ℤ, pos, All, Bool, true, false, cond, ◌||◌, List, [], ◌∷◌, ◌++◌, length, find, Option, Some, None, refl, sym, ap, subst, ◌∙◌, arith, int_eq, inl, inr, option_map, length-append, nat_eq, slice_get, sum_by, string_bytes}
use Rattle.std.proofs.lemmas.Bool.{cases_eq}
use Rattle.std.proofs.lemmas.Bool.Decides.{nat_tests}
use Rattle.std.proofs.lemmas.List.Elements.{All-head, All-push, All-tail}
use Rattle.std.proofs.lemmas.List.{append_assoc, append-nil}
use Rattle.std.proofs.lemmas.List.Sums.{sum_by_push, sum_by-append}
use Rattle.std.proofs.lemmas.Option.{slice_get_within, get_or_from_slice_get}
use Rattle.std.proofs.lemmas.Slice.Eq.{bytes_eq-Decides}
use Rattle.std.specs.Str.{bytes_eq}
use Rattle.sqlite_keyed.specs.Keyed.{get_by}
use Rattle.sqlite_keyed.proofs.KeyedLemmas.{same_int}
use Rattle.accounts.specs.Forgetting.{IsGone}
use Rattle.accounts.specs.Jobs.{job_at, spent_for}
use Rattle.accounts.specs.Ledgers.{Ledger, Takes, granted_to, past_of, spent_by_jobs}
use Rattle.accounts.specs.Restoring.{AddsGone, OpensAccount, Recalls}
use Rattle.accounts.specs.declared.jobs.JobEntry.{JobEntry}
use Rattle.accounts.specs.declared.jobs.JobStanding.{JobStanding}
use Rattle.accounts.specs.declared.jobs.JobStanding.TheVariants as stands
use Rattle.accounts.proofs.Keeping.{spent_gone, sum_none}
use Rattle.desk_records.specs.Columns.{id_of, most_numbers}
use Rattle.desk_records.specs.Made.{outcome_key, stored_job_key}
use Rattle.desk_records.specs.Records.{IsNarrowJob, IsNarrowOutcome}
use Rattle.desk_records.specs.declared.stored_job.StoredJob.{StoredJob}
use Rattle.desk_records.specs.declared.stored_outcome.StoredOutcome.{StoredOutcome}
use Rattle.desk_records.specs.declared.stored_tenant.StoredTenant.{StoredTenant}
use Rattle.ledger_records.specs.LedgerRecords.{CameTo, HasFewerJobs, StandsAs, is_tenant, spent_of}
use Rattle.ledger_records.specs.SoFar.{EndsSoFar, GoesPastRow, HasAccounts, IsHeldIfOpen, IsOutcomeOf, IsRestoredFrom, IsSoFar, PutsRow, SplitsOutcome, StandsSoFar, is_held, outcomes_with}
use Rattle.ledger_records.specs.declared.restored_job.RestoredJob.{RestoredJob}
use Rattle.ledger_records.proofs.Finding.{apart, desks_apart, get_last, get_other, itself, or_true}
use Rattle.ledger_records.proofs.Forgetting.{get_none, past_end}
use Rattle.ledger_records.proofs.Steps.{all_weaker, at_number, own_name, spent_open, stands_by}

-- ---- what is found in a list with one more at its end

module _ {X : Type 0} (p : X → Bool) where
  pub find_other : (xs : List X) (x : X) → p x ≡ false → find p (xs ++ x ∷ []) ≡ find p xs
  find_other [] x other = rw other refl
  find_other (y ∷ ys) x other = ap (λ o. cond (p y) (Some y) o) (find_other ys x other)

  pub find_last : (xs : List X) (x : X) → p x ≡ true → find p xs ≡ None → find p (xs ++ x ∷ []) ≡ Some x
  find_last [] x own none = rw own refl
  find_last (y ∷ ys) x own none = go (p y) refl none (find_last ys x own)
    where
      go : (b : Bool) → p y ≡ b → cond b (Some y) (find p ys) ≡ None → (find p ys ≡ None → find p (ys ++ x ∷ []) ≡ Some x) → cond (p y) (Some y) (find p (ys ++ x ∷ [])) ≡ Some x
      go true here none more = absurd (cc)
      go false here none more = rw here (more none)

  pub find_stays : (xs : List X) (x y : X) → find p xs ≡ Some y → find p (xs ++ x ∷ []) ≡ Some y
  find_stays [] x y there = absurd (cc)
  find_stays (z ∷ zs) x y there = go (p z) refl there (find_stays zs x y)
    where
      go : (b : Bool) → p z ≡ b → cond b (Some z) (find p zs) ≡ Some y → (find p zs ≡ Some y → find p (zs ++ x ∷ []) ≡ Some y) → cond (p z) (Some z) (find p (zs ++ x ∷ [])) ≡ Some y
      go true here there more = rw here there
      go false here there more = rw here (more there)

-- ---- accounts

tenant_other : (desk : ℕ) (q : List ℕ) (t : StoredTenant) → t.desk ≢ desk → is_tenant desk q t ≡ false
tenant_other desk q t other =
    let apart_desks : (t.desk == desk) ≡ false = grind (arith, nat_tests) in
    rw apart_desks refl

no_tenant : (o : Option StoredTenant) → option_map (λ (t : StoredTenant). t.granted) o ≡ None → o ≡ None
no_tenant None none = refl
no_tenant (Some t) none = absurd (cc)

pub account_passed : (desk : ℕ) (done : List StoredTenant) (t : StoredTenant) (ledger : Ledger) → t.desk ≢ desk → HasAccounts desk done ledger → HasAccounts desk (done ++ t ∷ []) ledger
account_passed desk done t ledger other has = record {
  granted = λ q. has.granted q ∙ ap (option_map (λ (r : StoredTenant). r.granted)) (sym (find_other (is_tenant desk q) done t (tenant_other desk q t other)));
  past = λ q r there. has.past q r (sym (find_other (is_tenant desk q) done t (tenant_other desk q t other)) ∙ there);
  jobs = has.jobs;
}

pub account_opened : (desk : ℕ) (done : List StoredTenant) (t : StoredTenant) (old new : Ledger) → t.desk ≡ desk → OpensAccount old t.name t.granted t.spent new → HasAccounts desk done old → HasAccounts desk (done ++ t ∷ []) new
account_opened desk done t old new own opens has = record {
  granted = λ q. opens.grants q ∙ sums q (bytes_eq t.name q) refl;
  past = λ q r there. opens.past q ∙ gone q (bytes_eq t.name q) refl r there;
  jobs = opens.jobs;
}
  where
    none : find (is_tenant desk t.name) done ≡ None
    none = no_tenant (find (is_tenant desk t.name) done) (sym (has.granted t.name) ∙ opens.fresh)

    here : (q : List ℕ) → bytes_eq t.name q ≡ true → find (is_tenant desk q) (done ++ t ∷ []) ≡ Some t
    here q same =
        let named : t.name ≡ q = (bytes_eq-Decides t.name q).0 same in
        find_last (is_tenant desk q) done t (own_name desk t.name q t own refl ∙ same) (ap (λ (n : List ℕ). find (is_tenant desk n) done) (sym named) ∙ none)

    elsewhere : (q : List ℕ) → bytes_eq t.name q ≡ false → find (is_tenant desk q) (done ++ t ∷ []) ≡ find (is_tenant desk q) done
    elsewhere q other = find_other (is_tenant desk q) done t (own_name desk t.name q t own refl ∙ other)

    sums : (q : List ℕ) (b : Bool) → bytes_eq t.name q ≡ b → cond b (Some t.granted) (granted_to old q) ≡ option_map (λ (r : StoredTenant). r.granted) (find (is_tenant desk q) (done ++ t ∷ []))
    sums q true same = sym (ap (option_map (λ (r : StoredTenant). r.granted)) (here q same))
    sums q false other = has.granted q ∙ ap (option_map (λ (r : StoredTenant). r.granted)) (sym (elsewhere q other))

    gone : (q : List ℕ) (b : Bool) → bytes_eq t.name q ≡ b → (r : StoredTenant) → find (is_tenant desk q) (done ++ t ∷ []) ≡ Some r → cond b t.spent (past_of old q) ≡ r.spent
    gone q true same r there = let is : t ≡ r = (let e : Some t ≡ Some r = sym (here q same) ∙ there in cc e) in ap (λ (x : StoredTenant). x.spent) is
    gone q false other r there = has.past q r (sym (elsewhere q other) ∙ there)

-- ---- jobs

pub begun : (desk : ℕ) (tenants : List StoredTenant) (ledger : Ledger) → HasAccounts desk tenants ledger → StandsSoFar desk tenants [] [] ledger × EndsSoFar desk [] ledger
begun desk tenants ledger has = (
  record {
    granted = has.granted;
    spent = λ q t there. let jobs : spent_by_jobs ledger.jobs q ≡ 0 = ap (λ js. spent_by_jobs js q) has.jobs in omega (arith, has.past q t there, jobs);
    stand = λ number first small. subst (λ js. StandsAs (job_at js number) None None) (sym has.jobs) (none_at number);
    fewer = λ k d lt. absurd (omega (arith, lt));
    few = let none : length ledger.jobs ≡ 0 = ap length has.jobs in omega (arith, none);
  },
  inl (ap length has.jobs),
)
  where
    none_at : (number : ℕ) → StandsAs (job_at [] number) None None
    none_at number = go (nat_eq number 0)
      where
        go : (b : Bool) → StandsAs (cond b None (slice_get [] (number - 1))) None None
        go true = tt
        go false = tt

-- there is no record where there is no job
both_none : (job : Option StoredJob) (outcome : Option StoredOutcome) → StandsAs None job outcome → (job ≡ None) × (outcome ≡ None)
both_none None None is = (refl, refl)
both_none None (Some outcome) is = absurd is
both_none (Some job) outcome is = absurd is

get_left : {X : Type 0} (xs ys : List X) (i : ℕ) (x : X) → slice_get xs i ≡ Some x → slice_get (xs ++ ys) i ≡ Some x
get_left [] ys i x there = absurd (cc)
get_left (y ∷ xs) ys zero x there = there
get_left (y ∷ xs) ys (suc i) x there = get_left xs ys i x there

get_right : {X : Type 0} (xs ys : List X) (i : ℕ) → length xs ≤ i → slice_get (xs ++ ys) i ≡ slice_get ys (i - length xs)
get_right [] ys i long = let none : i ≡ i - 0 = omega arith in ap (slice_get ys) none
get_right (x ∷ xs) ys zero long = absurd (omega (arith, long))
get_right (x ∷ xs) ys (suc i) long = let same : i - length xs ≡ suc i - suc (length xs) = omega arith in get_right xs ys i (omega (arith, long)) ∙ ap (slice_get ys) same

each_gone : (gone : List JobEntry) → All IsGone gone → (n : ℕ) (x : JobEntry) → slice_get gone n ≡ Some x → IsGone x
each_gone gone are n x there = subst IsGone (get_or_from_slice_get gone n x x there) (are n x (slice_get_within gone n x there))

module _ (desk : ℕ) (tenants : List StoredTenant) (js : List StoredJob) (os : List StoredOutcome) where
  pub gone_stands : (old mid : Ledger) (count : ℕ) → StandsSoFar desk tenants js os old → AddsGone old count mid → length old.jobs + count < most_numbers → StandsSoFar desk tenants js os mid
  gone_stands old mid count stands adds small = record {
    granted = λ q. adds.jobs.grants q ∙ stands.granted q;
    spent = λ q t there. same q ∙ stands.spent q t there;
    stand = λ number first fits. go number first (slice_get old.jobs (number - 1)) refl (stands_by _ _ _ _ _ _ (at_number old.jobs number first) refl refl (stands.stand number first fits));
    fewer = all_weaker (HasFewerJobs desk (length old.jobs)) (HasFewerJobs desk (length mid.jobs)) (λ j less own. let p = less own in omega (arith, p, long)) js stands.fewer;
    few = omega (arith, long, adds.counted, small);
  }
    where
      long : length mid.jobs ≡ length old.jobs + length adds.gone
      long = ap length adds.jobs.jobs ∙ length-append old.jobs adds.gone

      none_spent : (q : List ℕ) → sum_by (spent_for q) adds.gone ≡ 0
      none_spent q = sum_none (spent_for q) adds.gone (λ n x there. spent_gone q x (each_gone adds.gone adds.are n x there))

      same : (q : List ℕ) → spent_of mid q ≡ spent_of old q
      same q =
          let jobs : spent_by_jobs mid.jobs q ≡ spent_by_jobs old.jobs q + sum_by (spent_for q) adds.gone = ap (λ x. spent_by_jobs x q) adds.jobs.jobs ∙ sum_by-append (spent_for q) old.jobs adds.gone in
          omega (arith, adds.jobs.past q, jobs, none_spent q)

      gone_here : (number : ℕ) (e : Option JobEntry) → slice_get adds.gone (number - 1 - length old.jobs) ≡ e → StandsAs e None None
      gone_here number None there = tt
      gone_here number (Some x) there = each_gone adds.gone adds.are (number - 1 - length old.jobs) x there

      go : (number : ℕ) → 1 ≤ number → (e : Option JobEntry) → slice_get old.jobs (number - 1) ≡ e → StandsAs (slice_get old.jobs (number - 1)) (get_by stored_job_key js (pos (id_of desk number))) (get_by outcome_key os (pos (id_of desk number)))
          → StandsAs (job_at mid.jobs number) (get_by stored_job_key js (pos (id_of desk number))) (get_by outcome_key os (pos (id_of desk number)))
      go number first (Some x) there is =
          stands_by _ _ _ _ _ _ (there ∙ sym (at_number mid.jobs number first ∙ ap (λ l. slice_get l (number - 1)) adds.jobs.jobs ∙ get_left old.jobs adds.gone (number - 1) x there)) refl refl is
      go number first None there is =
          let none = both_none (get_by stored_job_key js (pos (id_of desk number))) (get_by outcome_key os (pos (id_of desk number))) (stands_by _ _ _ _ _ _ there refl refl is) in
          let at : job_at mid.jobs number ≡ slice_get adds.gone (number - 1 - length old.jobs) = at_number mid.jobs number first ∙ ap (λ l. slice_get l (number - 1)) adds.jobs.jobs ∙ get_right old.jobs adds.gone (number - 1) (get_none old.jobs (number - 1) there) in
          stands_by _ _ _ _ _ _ (sym at) (sym none.0) (sym none.1) (gone_here number (slice_get adds.gone (number - 1 - length old.jobs)) refl)

  -- a job more, with its record
  pub job_pushed : (more : List StoredOutcome) (mid new : Ledger) (row : StoredJob) (entry : JobEntry) (outcome : Option StoredOutcome) → StandsSoFar desk tenants js os mid → new.jobs ≡ mid.jobs ++ entry ∷ []
      → ((q : List ℕ) → granted_to new q ≡ granted_to mid q) → ((q : List ℕ) → spent_of new q ≡ spent_of mid q) → row.desk ≡ desk → row.number ≡ length mid.jobs + 1 → row.number < most_numbers → StandsAs (Some entry) (Some row) outcome
      → (get_by outcome_key os (pos (id_of desk row.number)) ≡ None → get_by outcome_key more (pos (id_of desk row.number)) ≡ outcome)
      → ((n : ℕ) → (n ≡ row.number → ⊥) → get_by outcome_key more (pos (id_of desk n)) ≡ get_by outcome_key os (pos (id_of desk n)))
      → StandsSoFar desk tenants (js ++ row ∷ []) more new × EndsSoFar desk (js ++ row ∷ []) new
  job_pushed more mid new row entry outcome stands jobs grants spent own next small here there others = (
    record {
      granted = λ q. grants q ∙ stands.granted q;
      spent = λ q t found. spent q ∙ stands.spent q t found;
      stand = λ number first fits. go number first fits (cases_eq number row.number);
      fewer = All-push (HasFewerJobs desk (length new.jobs)) js row (all_weaker (HasFewerJobs desk (length mid.jobs)) (HasFewerJobs desk (length new.jobs)) (λ j less mine. let p = less mine in omega (arith, p, long)) js stands.fewer) (λ mine. omega (arith, next, long));
      few = omega (arith, long, next, small);
    },
    inr (row, ap (λ (n : ℕ). get_by stored_job_key (js ++ row ∷ []) (pos (id_of desk n))) (long ∙ sym next) ∙ found),
  )
    where
      long : length new.jobs ≡ length mid.jobs + 1
      long = ap length jobs ∙ length-append mid.jobs (entry ∷ [])

      none_before : job_at mid.jobs row.number ≡ None
      none_before = at_number mid.jobs row.number (omega (arith, next)) ∙ past_end mid.jobs (row.number - 1) (omega (arith, next))

      none : (get_by stored_job_key js (pos (id_of desk row.number)) ≡ None) × (get_by outcome_key os (pos (id_of desk row.number)) ≡ None)
      none = both_none (get_by stored_job_key js (pos (id_of desk row.number))) (get_by outcome_key os (pos (id_of desk row.number))) (stands_by _ _ _ _ _ _ none_before refl refl (stands.stand row.number (omega (arith, next)) small))

      found : get_by stored_job_key (js ++ row ∷ []) (pos (id_of desk row.number)) ≡ Some row
      found =
          let key : int_eq (stored_job_key row) (pos (id_of desk row.number)) ≡ true = ap (λ (d : ℕ). int_eq (pos (id_of d row.number)) (pos (id_of desk row.number))) own ∙ itself (pos (id_of desk row.number)) in
          find_last (λ j. int_eq (stored_job_key j) (pos (id_of desk row.number))) js row key none.0

      go : (number : ℕ) → 1 ≤ number → number < most_numbers → (number ≡ row.number) ⊎ (number ≡ row.number → ⊥) → StandsAs (job_at new.jobs number) (get_by stored_job_key (js ++ row ∷ []) (pos (id_of desk number))) (get_by outcome_key more (pos (id_of desk number)))
      go number first fits (inl same) =
          let last : number - 1 ≡ length mid.jobs = omega (arith, same, next) in
          let at : job_at new.jobs number ≡ Some entry = at_number new.jobs number first ∙ ap (λ l. slice_get l (number - 1)) jobs ∙ ap (slice_get (mid.jobs ++ entry ∷ [])) last ∙ get_last mid.jobs entry in
          stands_by _ _ _ _ _ _ (sym at) (sym (ap (λ (n : ℕ). get_by stored_job_key (js ++ row ∷ []) (pos (id_of desk n))) same ∙ found)) (sym (ap (λ (n : ℕ). get_by outcome_key more (pos (id_of desk n))) same ∙ there none.1)) here
      go number first fits (inr other) =
          let before : number - 1 ≡ length mid.jobs → ⊥ = λ same. other (omega (arith, same, next, first)) in
          let at : job_at new.jobs number ≡ job_at mid.jobs number = at_number new.jobs number first ∙ ap (λ l. slice_get l (number - 1)) jobs ∙ get_other mid.jobs entry (number - 1) before ∙ sym (at_number mid.jobs number first) in
          let far : int_eq (stored_job_key row) (pos (id_of desk number)) ≡ false = ap (λ (d : ℕ). int_eq (pos (id_of d row.number)) (pos (id_of desk number))) own ∙ apart desk row.number number (λ same. other (sym same)) in
          stands_by _ _ _ _ _ _ (sym at) (sym (find_other (λ j. int_eq (stored_job_key j) (pos (id_of desk number))) js row far)) (sym (others number other)) (stands.stand number first fits)

  -- a job of another desk
  pub job_passed : (row : StoredJob) (ledger : Ledger) → row.desk ≢ desk → row.number < most_numbers → StandsSoFar desk tenants js os ledger × EndsSoFar desk js ledger → StandsSoFar desk tenants (js ++ row ∷ []) os ledger × EndsSoFar desk (js ++ row ∷ []) ledger
  job_passed row ledger other small both = (
    record {
      granted = both.0.granted;
      spent = both.0.spent;
      stand = λ number first fits. stands_by _ _ _ _ _ _ refl (sym (find_other (λ j. int_eq (stored_job_key j) (pos (id_of desk number))) js row (desks_apart row.desk desk row.number number other small fits))) refl (both.0.stand number first fits);
      fewer = All-push (HasFewerJobs desk (length ledger.jobs)) js row both.0.fewer (λ own. absurd (other own));
      few = both.0.few;
    },
    elim both.1 [ inl none ↦ inl none | inr last ↦ inr (last.0, find_stays (λ j. int_eq (stored_job_key j) (pos (id_of desk (length ledger.jobs)))) js row last.0 last.1) ],
  )

  -- an outcome of another desk
  pub outcome_passed : (o : StoredOutcome) (ledger : Ledger) → o.desk ≢ desk → o.number < most_numbers → StandsSoFar desk tenants js os ledger → StandsSoFar desk tenants js (os ++ o ∷ []) ledger
  outcome_passed o ledger other small stands = record {
    granted = stands.granted;
    spent = stands.spent;
    stand = λ number first fits. stands_by _ _ _ _ _ _ refl refl (sym (find_other (λ x. int_eq (outcome_key x) (pos (id_of desk number))) os o (desks_apart o.desk desk o.number number other small fits))) (stands.stand number first fits);
    fewer = stands.fewer;
    few = stands.few;
  }

  -- a job that is over
  pub over_pushed : (o : StoredOutcome) (old mid new : Ledger) (count : ℕ) (row : StoredJob) (standing : JobStanding) → StandsSoFar desk tenants js os old → AddsGone old count mid → length old.jobs + count + 1 ≡ row.number → Recalls mid row.tenant row.credit standing new
      → CameTo standing o.outcome → row.desk ≡ desk → o.desk ≡ row.desk → o.number ≡ row.number → row.number < most_numbers → StandsSoFar desk tenants (js ++ row ∷ []) (os ++ o ∷ []) new × EndsSoFar desk (js ++ row ∷ []) new
  over_pushed o old mid new count row standing stands adds next recalls came own at numbered small =
      job_pushed (os ++ o ∷ []) mid new row recalls.entry (Some o) (gone_stands old mid count stands adds (omega (arith, next, small))) recalls.jobs recalls.grants same own (omega (arith, long, next)) small
      (record { tenant = recalls.tenant; credit = recalls.credited }, subst (λ s. CameTo s o.outcome) (sym recalls.stands) came) found elsewhere
    where
      long : length mid.jobs ≡ length old.jobs + count
      long = let p = ap length adds.jobs.jobs ∙ length-append old.jobs adds.gone in omega (arith, p, adds.counted)

      same : (q : List ℕ) → spent_of new q ≡ spent_of mid q
      same q =
          let jobs : spent_by_jobs new.jobs q ≡ spent_by_jobs mid.jobs q + spent_for q recalls.entry = ap (λ x. spent_by_jobs x q) recalls.jobs ∙ sum_by_push (spent_for q) mid.jobs recalls.entry in
          omega (arith, recalls.past q, jobs)

      key : (n : ℕ) → int_eq (outcome_key o) (pos (id_of desk n)) ≡ int_eq (pos (id_of desk row.number)) (pos (id_of desk n))
      key n = ap (λ (d : ℕ). int_eq (pos (id_of d o.number)) (pos (id_of desk n))) (at ∙ own) ∙ ap (λ (m : ℕ). int_eq (pos (id_of desk m)) (pos (id_of desk n))) numbered

      found : get_by outcome_key os (pos (id_of desk row.number)) ≡ None → get_by outcome_key (os ++ o ∷ []) (pos (id_of desk row.number)) ≡ Some o
      found none = find_last (λ x. int_eq (outcome_key x) (pos (id_of desk row.number))) os o (key row.number ∙ itself (pos (id_of desk row.number))) none

      elsewhere : (n : ℕ) → (n ≡ row.number → ⊥) → get_by outcome_key (os ++ o ∷ []) (pos (id_of desk n)) ≡ get_by outcome_key os (pos (id_of desk n))
      elsewhere n other = find_other (λ x. int_eq (outcome_key x) (pos (id_of desk n))) os o (key n ∙ apart desk row.number n (λ same. other (sym same)))

  -- a job that is open
  pub open_pushed : (old mid new : Ledger) (count : ℕ) (row : StoredJob) → StandsSoFar desk tenants js os old → AddsGone old count mid → length old.jobs + count + 1 ≡ row.number → Takes mid row.tenant row.credit new → row.desk ≡ desk → row.number < most_numbers
      → StandsSoFar desk tenants (js ++ row ∷ []) os new × EndsSoFar desk (js ++ row ∷ []) new
  open_pushed old mid new count row stands adds next takes own small =
      job_pushed os mid new row takes.entry None (gone_stands old mid count stands adds (omega (arith, next, small))) takes.jobs.jobs takes.jobs.grants same own (omega (arith, long, next)) small
      (record { tenant = takes.tenant; credit = takes.credited }, takes.opened) (λ none. none) (λ n other. refl)
    where
      long : length mid.jobs ≡ length old.jobs + count
      long = let p = ap length adds.jobs.jobs ∙ length-append old.jobs adds.gone in omega (arith, p, adds.counted)

      same : (q : List ℕ) → spent_of new q ≡ spent_of mid q
      same q =
          let jobs : spent_by_jobs new.jobs q ≡ spent_by_jobs mid.jobs q + spent_for q takes.entry = ap (λ x. spent_by_jobs x q) takes.jobs.jobs ∙ sum_by_push (spent_for q) mid.jobs takes.entry in
          omega (arith, takes.jobs.past q, jobs, spent_open q takes.entry takes.opened)

-- ---- open jobs

any_stays : (number : ℕ) (rs : List RestoredJob) (r : RestoredJob) → is_held number rs ≡ true → is_held number (rs ++ r ∷ []) ≡ true
any_stays number [] r held = absurd (cc)
any_stays number (x ∷ rs) r held = go (x.number == number) refl held (any_stays number rs r)
  where
    go : (b : Bool) → (x.number == number) ≡ b → (b || is_held number rs) ≡ true → (is_held number rs ≡ true → is_held number (rs ++ r ∷ []) ≡ true) → ((x.number == number) || is_held number (rs ++ r ∷ [])) ≡ true
    go true here held more = rw here refl
    go false here held more = rw here (more held)

any_last : (number : ℕ) (rs : List RestoredJob) (r : RestoredJob) → r.number ≡ number → is_held number (rs ++ r ∷ []) ≡ true
any_last number [] r same = let own : (r.number == number) ≡ true = grind (arith, nat_tests) in rw own refl
any_last number (x ∷ rs) r same = or_true (x.number == number) (is_held number (rs ++ r ∷ [])) (any_last number rs r same)

none_before : {X : Type 0} (p : X → Bool) (xs : List X) (x : X) (o : Option X) → find p xs ≡ o → find p (xs ++ x ∷ []) ≡ None → find p xs ≡ None
none_before p xs x None is none = is
none_before p xs x (Some y) is none = let there : find p (xs ++ x ∷ []) ≡ Some y = find_stays p xs x y is in absurd (cc (there, none))

module _ (desk : ℕ) (tenants : List StoredTenant) (js : List StoredJob) (os : List StoredOutcome) (old : Ledger) (rs : List RestoredJob) (is : IsSoFar desk tenants js os old rs) (row : StoredJob) (small : row.number < most_numbers) where
  -- a row behind all jobs of the ledger has no record yet
  fresh : length old.jobs < row.number → (get_by stored_job_key js (pos (id_of desk row.number)) ≡ None) × (get_by outcome_key os (pos (id_of desk row.number)) ≡ None)
  fresh later =
      let none : job_at old.jobs row.number ≡ None = at_number old.jobs row.number (omega (arith, later)) ∙ past_end old.jobs (row.number - 1) (omega (arith, later)) in
      both_none (get_by stored_job_key js (pos (id_of desk row.number))) (get_by outcome_key os (pos (id_of desk row.number))) (stands_by _ _ _ _ _ _ none refl refl (is.stands.stand row.number (omega (arith, later)) small))

  job_more : (r : RestoredJob) → IsRestoredFrom desk js os r → IsRestoredFrom desk (js ++ row ∷ []) os r
  job_more r from = record { small = from.small; row = from.row; is = find_stays (λ j. int_eq (stored_job_key j) (pos (id_of desk r.number))) js row from.row from.is; open_yet = from.open_yet; admitted = from.admitted }

  both_more : (o : StoredOutcome) → ((r : RestoredJob) → IsRestoredFrom desk js os r → int_eq (outcome_key o) (pos (id_of desk r.number)) ≡ false) → (r : RestoredJob) → IsRestoredFrom desk js os r → IsRestoredFrom desk (js ++ row ∷ []) (os ++ o ∷ []) r
  both_more o far r from = record {
    small = from.small;
    row = from.row;
    is = find_stays (λ j. int_eq (stored_job_key j) (pos (id_of desk r.number))) js row from.row from.is;
    open_yet = find_other (λ x. int_eq (outcome_key x) (pos (id_of desk r.number))) os o (far r from) ∙ from.open_yet;
    admitted = from.admitted;
  }

  -- held jobs stay held where outcomes come
  held_more : (o : StoredOutcome) (j : StoredJob) → IsHeldIfOpen desk os rs j → IsHeldIfOpen desk (os ++ o ∷ []) rs j
  held_more o j held own none = held own (none_before (λ x. int_eq (outcome_key x) (pos (id_of desk j.number))) os o _ refl none)

  own_far : (o : StoredOutcome) → row.desk ≡ desk → length old.jobs < row.number → o.desk ≡ row.desk → o.number ≡ row.number → (r : RestoredJob) → IsRestoredFrom desk js os r → int_eq (outcome_key o) (pos (id_of desk r.number)) ≡ false
  own_far o own later at numbered r from = go (int_eq (outcome_key o) (pos (id_of desk r.number))) refl
    where
      go : (b : Bool) → int_eq (outcome_key o) (pos (id_of desk r.number)) ≡ b → int_eq (outcome_key o) (pos (id_of desk r.number)) ≡ false
      go false far = far
      go true same =
          let equal : outcome_key o ≡ pos (id_of desk r.number) = same_int (outcome_key o) (pos (id_of desk r.number)) same in
          let key : pos (id_of desk row.number) ≡ pos (id_of desk r.number) = sym (ap (λ (d : ℕ). pos (id_of d o.number)) (at ∙ own) ∙ ap (λ (n : ℕ). pos (id_of desk n)) numbered) ∙ equal in
          let none : get_by stored_job_key js (pos (id_of desk r.number)) ≡ None = ap (get_by stored_job_key js) (sym key) ∙ (fresh later).0 in
          let there = from.is in absurd (cc (none, there))

  other_row : (outcome : Option StoredOutcome) → row.desk ≢ desk → IsOutcomeOf row outcome → IsSoFar desk tenants (js ++ row ∷ []) (outcomes_with os outcome) old rs
  other_row None other of =
      let both = job_passed desk tenants js os row old other small (is.stands, is.ends) in record {
        stands = both.0;
        ends = both.1;
        are = record {
          each = all_weaker (IsRestoredFrom desk js os) (IsRestoredFrom desk (js ++ row ∷ []) os) job_more rs is.are.each;
          all = All-push (IsHeldIfOpen desk os rs) js row is.are.all (λ own. absurd (other own));
        };
      }
  other_row (Some o) other of =
      let apart_desk : o.desk ≢ desk = λ same. other (sym of.0 ∙ same) in
      let both = job_passed desk tenants js (os ++ o ∷ []) row old other small (outcome_passed desk tenants js os o old apart_desk of.2 is.stands, is.ends) in record {
        stands = both.0;
        ends = both.1;
        are = record {
          each = all_weaker (IsRestoredFrom desk js os) (IsRestoredFrom desk (js ++ row ∷ []) (os ++ o ∷ [])) (both_more o (λ r from. desks_apart o.desk desk o.number r.number apart_desk of.2 from.small)) rs is.are.each;
          all = All-push (IsHeldIfOpen desk (os ++ o ∷ []) rs) js row (all_weaker (IsHeldIfOpen desk os rs) (IsHeldIfOpen desk (os ++ o ∷ []) rs) (held_more o) js is.are.all) (λ own. absurd (other own));
        };
      }

  own_row : (outcome : Option StoredOutcome) (new : Ledger) (after : List RestoredJob) → row.desk ≡ desk → IsOutcomeOf row outcome → PutsRow row outcome old rs new after → IsSoFar desk tenants (js ++ row ∷ []) (outcomes_with os outcome) new after
  own_row None new after own of puts =
      let later : length old.jobs < row.number = omega (arith, puts.next) in
      let both = open_pushed desk tenants js os old puts.mid new puts.count row is.stands puts.adds puts.next puts.ends.0 own small in
      let r = puts.ends.1 in
      let numbered : r.0.number ≡ row.number = r.1.numbered in
      let found : get_by stored_job_key (js ++ row ∷ []) (pos (id_of desk r.0.number)) ≡ Some row =
      ap (λ (n : ℕ). get_by stored_job_key (js ++ row ∷ []) (pos (id_of desk n))) numbered
      ∙ find_last (λ j. int_eq (stored_job_key j) (pos (id_of desk row.number))) js row (ap (λ (d : ℕ). int_eq (pos (id_of d row.number)) (pos (id_of desk row.number))) own ∙ itself (pos (id_of desk row.number))) (fresh later).0 in
      let here : IsRestoredFrom desk (js ++ row ∷ []) os r.0 = record {
        small = omega (arith, numbered, small);
        row = row;
        is = found;
        open_yet = ap (λ (n : ℕ). get_by outcome_key os (pos (id_of desk n))) numbered ∙ (fresh later).1;
        admitted = r.1;
      } in
      subst (λ (a : List RestoredJob). IsSoFar desk tenants (js ++ row ∷ []) os new a) (sym r.2) (record {
        stands = both.0;
        ends = both.1;
        are = record {
          each = All-push (IsRestoredFrom desk (js ++ row ∷ []) os) rs r.0 (all_weaker (IsRestoredFrom desk js os) (IsRestoredFrom desk (js ++ row ∷ []) os) job_more rs is.are.each) here;
          all = All-push (IsHeldIfOpen desk os (rs ++ r.0 ∷ [])) js row
              (all_weaker (IsHeldIfOpen desk os rs) (IsHeldIfOpen desk os (rs ++ r.0 ∷ [])) (λ j held mine none. any_stays j.number rs r.0 (held mine none)) js is.are.all)
              (λ mine none. any_last row.number rs r.0 numbered);
        };
      })
  own_row (Some o) new after own of puts =
      let later : length old.jobs < row.number = omega (arith, puts.next) in
      let came = puts.ends.0 in
      let both = over_pushed desk tenants js os o old puts.mid new puts.count row came.0 is.stands puts.adds puts.next came.2 came.1 own of.0 of.1 small in
      let found : get_by outcome_key (os ++ o ∷ []) (pos (id_of desk row.number)) ≡ Some o =
      find_last (λ x. int_eq (outcome_key x) (pos (id_of desk row.number))) os o
      (ap (λ (d : ℕ). int_eq (pos (id_of d o.number)) (pos (id_of desk row.number))) (of.0 ∙ own) ∙ ap (λ (m : ℕ). int_eq (pos (id_of desk m)) (pos (id_of desk row.number))) of.1 ∙ itself (pos (id_of desk row.number))) (fresh later).1 in
      subst (λ (a : List RestoredJob). IsSoFar desk tenants (js ++ row ∷ []) (os ++ o ∷ []) new a) (sym puts.ends.1) (record {
        stands = both.0;
        ends = both.1;
        are = record {
          each = all_weaker (IsRestoredFrom desk js os) (IsRestoredFrom desk (js ++ row ∷ []) (os ++ o ∷ [])) (both_more o (own_far o own later of.0 of.1)) rs is.are.each;
          all = All-push (IsHeldIfOpen desk (os ++ o ∷ []) rs) js row (all_weaker (IsHeldIfOpen desk os rs) (IsHeldIfOpen desk (os ++ o ∷ []) rs) (held_more o) js is.are.all) (λ mine none. absurd (cc (found, none)));
        };
      })

  pub row_done : (outcome : Option StoredOutcome) (new : Ledger) (after : List RestoredJob) → IsOutcomeOf row outcome → GoesPastRow desk row outcome old rs new after → IsSoFar desk tenants (js ++ row ∷ []) (outcomes_with os outcome) new after
  row_done outcome new after of goes = elim goes [
    | inl past ↦ subst (λ (led : Ledger). IsSoFar desk tenants (js ++ row ∷ []) (outcomes_with os outcome) led after) (sym past.1)
        (subst (λ (a : List RestoredJob). IsSoFar desk tenants (js ++ row ∷ []) (outcomes_with os outcome) old a) (sym past.2) (other_row outcome past.0 of))
    | inr own ↦ own_row outcome new after own.0 of own.1
  ]

pub so_far_begun : (desk : ℕ) (tenants : List StoredTenant) (ledger : Ledger) → HasAccounts desk tenants ledger → IsSoFar desk tenants [] [] ledger []
so_far_begun desk tenants ledger has =
    let both = begun desk tenants ledger has in record {
      stands = both.0;
      ends = both.1;
      are = record { each = λ k d lt. absurd (omega (arith, lt)); all = λ k d lt. absurd (omega (arith, lt)) };
    }

all_at : {X : Type 0} (P : X → Type 0) (xs : List X) (x : X) (ys : List X) → All P (xs ++ x ∷ ys) → P x
all_at P [] x ys each = All-head P x ys each
all_at P (y ∷ xs) x ys each = all_at P xs x ys (All-tail P y (xs ++ x ∷ ys) each)

-- one row more of all rows
pub row_more : (desk : ℕ) (tenants : List StoredTenant) (jobs done rows others : List StoredJob) (outcomes past left behind : List StoredOutcome) (row : StoredJob) (o : Option StoredOutcome) (old new : Ledger) (rs after : List RestoredJob) → All IsNarrowJob jobs → All IsNarrowOutcome outcomes → jobs ≡ done ++ rows
    → outcomes ≡ past ++ left → IsSoFar desk tenants done past old rs → rows ≡ row ∷ others → SplitsOutcome row left o behind → GoesPastRow desk row o old rs new after
    → (more : List StoredJob) × (gone : List StoredOutcome) × (jobs ≡ more ++ others) × (outcomes ≡ gone ++ behind) × IsSoFar desk tenants more gone new after
row_more desk tenants jobs done rows others outcomes past left behind row o old new rs after narrow small are of is first splits goes = by_outcome o splits goes
  where
    all : jobs ≡ done ++ row ∷ others
    all = are ∙ ap (λ (r : List StoredJob). done ++ r) first

    fits : row.number < most_numbers
    fits = (all_at IsNarrowJob done row others (subst (All IsNarrowJob) all narrow)).number

    long : jobs ≡ (done ++ row ∷ []) ++ others
    long = all ∙ sym (append_assoc done (row ∷ []) others)

    by_outcome : (o : Option StoredOutcome) → SplitsOutcome row left o behind → GoesPastRow desk row o old rs new after
        → (more : List StoredJob) × (gone : List StoredOutcome) × (jobs ≡ more ++ others) × (outcomes ≡ gone ++ behind) × IsSoFar desk tenants more gone new after
    by_outcome None splits goes = (done ++ row ∷ [], past, long, of ∙ ap (λ (r : List StoredOutcome). past ++ r) (sym splits), row_done desk tenants done past old rs is row fits None new after tt goes)
    by_outcome (Some x) splits goes =
        let whole : outcomes ≡ past ++ x ∷ behind = of ∙ ap (λ (r : List StoredOutcome). past ++ r) splits.0 in
        let low : x.number < most_numbers = (all_at IsNarrowOutcome past x behind (subst (All IsNarrowOutcome) whole small)).number in (
          done ++ row ∷ [],
          past ++ x ∷ [],
          long,
          whole ∙ sym (append_assoc past (x ∷ []) behind),
          row_done desk tenants done past old rs is row fits (Some x) new after (splits.1, splits.2, low) goes,
        )

none_left : {X : Type 0} (all done rows : List X) → all ≡ done ++ rows → length rows ≡ 0 → done ≡ all
none_left all done [] are none = sym (are ∙ append-nil done)
none_left all done (x ∷ xs) are none = absurd (cc)

-- all rows are done
pub rows_done : (desk : ℕ) (tenants : List StoredTenant) (jobs done rows : List StoredJob) (outcomes past left : List StoredOutcome) (ledger : Ledger) (rs : List RestoredJob) → jobs ≡ done ++ rows → outcomes ≡ past ++ left → IsSoFar desk tenants done past ledger rs → length rows ≡ 0 → length left ≡ 0
    → IsSoFar desk tenants jobs outcomes ledger rs
rows_done desk tenants jobs done rows outcomes past left ledger rs are of is none gone =
    subst (λ (js : List StoredJob). IsSoFar desk tenants js outcomes ledger rs) (none_left jobs done rows are none) (subst (λ (os : List StoredOutcome). IsSoFar desk tenants done os ledger rs) (none_left outcomes past left of gone) is)
