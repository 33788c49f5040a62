-- Each change of the records is the same change of the ledger.
use Rattle.std.proofs.Common.{◌≡◌, ◌+◌, ◌-◌, ◌<◌, ◌≤◌, ◌==◌, ℕ, zero, suc, pos, All, Bool, true, false, cond, List, [], ◌∷◌, ◌++◌, length, Option, Some, None, Result, refl, sym, ap, subst, ◌∙◌, arith, int_eq, inl, inr, option_map, unwrap_or, length-append, slice_get, slice_set, sum_by, get_or, ◌⊎◌, nat_eq, string_bytes}
use Rattle.std.proofs.lemmas.Bool.{cases_eq}
use Rattle.std.proofs.lemmas.Bool.Decides.{nat_tests}
use Rattle.std.proofs.lemmas.List.Sums.{sum_by_push, sum_by-set}
use Rattle.std.proofs.lemmas.Option.{slice_get_within, get_or_from_slice_get}
use Rattle.std.proofs.lemmas.Slice.Eq.{bytes_eq-Decides}
use Rattle.std.specs.Str.{bytes_eq}
use Rattle.accounts.specs.Jobs.{job_at, settled, spent_by_job, spent_for}
use Rattle.accounts.specs.Ledgers.{Finishes, GrantsMore, Ledger, Takes, granted_to, spent_by_jobs}
use Rattle.accounts.specs.declared.jobs.JobEntry.{JobEntry}
use Rattle.accounts.specs.declared.jobs.JobStanding.{JobStanding}
use Rattle.accounts.specs.declared.jobs.JobStanding.TheVariants as stands
use Rattle.accounts.proofs.Keeping.{bytes_apart, spent_apart, spent_own}
use Rattle.credit_book.specs.declared.book.Report.{Report}
use Rattle.desk_records.specs.Columns.{id_of, most_numbers}
use Rattle.desk_records.specs.Made.{made, outcome_key, stored_job_key, tenant_key}
use Rattle.desk_records.specs.Stored.{Ledgers}
use Rattle.desk_records.specs.declared.stored_change.SettledJob.{SettledJob}
use Rattle.desk_records.specs.declared.stored_change.StoredChange.TheVariants.{Granted, Settled, Taken}
use Rattle.desk_records.specs.declared.stored_change.TakenJob.{TakenJob}
use Rattle.desk_records.specs.declared.stored_job.StoredJob.{StoredJob}
use Rattle.desk_records.specs.declared.stored_key.StoredKey.{StoredKey}
use Rattle.desk_records.specs.declared.stored_outcome.StoredOutcome.{StoredOutcome}
use Rattle.desk_records.specs.declared.stored_tenant.StoredTenant.{StoredTenant}
use Rattle.desk_records.proofs.MadeLemmas.{all_insert}
use Rattle.ledger_records.specs.ChangedRows.{AreRowsOfEnd, IsRowOfGrant}
use Rattle.ledger_records.specs.LedgerRecords.{CameTo, HasFewerJobs, HasFewerKeyed, HasFewerTaken, HasTaken, IsLedgerOf, IsTakenAs, StandsAs, is_tenant, job_record, outcome_record, spent_of, tenant_named}
use Rattle.ledger_records.proofs.Finding.{apart, find_put, get_last, get_other, get_put, itself, past_last, set_here, set_other, tenant_found}

pub all_weaker : {X : Type 0} (P Q : X → Type 0) → ((x : X) → P x → Q x) → (xs : List X) → All P xs → All Q xs
all_weaker P Q weaker xs each = λ k d lt. weaker (get_or xs k d) (each k d lt)

-- a tenant's row is found where the name is its own
pub own_name : (desk : ℕ) (name q : List ℕ) (t : StoredTenant) → t.desk ≡ desk → t.name ≡ name → is_tenant desk q t ≡ bytes_eq name q
own_name desk name q t at named =
    let same : (t.desk == desk) ≡ true = grind (arith, nat_tests) in
    rw (same, named) refl

-- ---- a grant

pub granted_kept : (desk : ℕ) (l : Ledgers) (old new : Ledger) (name : List ℕ) (amount : ℕ) (t : StoredTenant) → IsLedgerOf desk l old → GrantsMore old name amount new → (granted_to old name ≡ None → spent_of old name ≡ 0)
    → IsRowOfGrant desk l name amount t → IsLedgerOf desk (made l (Granted t)) new
granted_kept desk l old new name amount t is grants first row = record {
  granted = λ q. grants.grants q ∙ sums q (bytes_eq name q) ∙ sym (ap (option_map (λ (r : StoredTenant). r.granted)) (found q));
  spent = λ q r there. same q ∙ kept q (bytes_eq name q) refl r (sym (found q) ∙ there);
  jobs = λ number first small. subst (λ js. StandsAs (job_at js number) (job_record l desk number) (outcome_record l desk number)) (sym grants.jobs) (is.jobs number first small);
  taken = subst (λ (n : ℕ). HasTaken desk (made l (Granted t)) n) (ap length (sym grants.jobs)) (record { few = is.taken.few; jobs = is.taken.jobs; desks = is.taken.desks; keys = is.taken.keys; last = is.taken.last });
}
  where
    found : (q : List ℕ) → tenant_named (made l (Granted t)) desk q ≡ cond (bytes_eq name q) (Some t) (tenant_named l desk q)
    found q = find_put desk q l.tenants t row.numbered ∙ ap (λ b. cond b (Some t) (tenant_named l desk q)) (own_name desk name q t row.at row.named)

    sums : (q : List ℕ) (b : Bool) → cond b (Some (unwrap_or (granted_to old name) 0 + amount)) (granted_to old q) ≡ option_map (λ (r : StoredTenant). r.granted) (cond b (Some t) (tenant_named l desk q))
    sums q true = ap (λ o. Some (unwrap_or o 0 + amount)) (is.granted name) ∙ ap Some (sym row.granted)
    sums q false = is.granted q

    same : (q : List ℕ) → spent_of new q ≡ spent_of old q
    same q = let jobs : spent_by_jobs new.jobs q ≡ spent_by_jobs old.jobs q = ap (λ js. spent_by_jobs js q) grants.jobs in omega (arith, grants.past q, jobs)

    had : (o : Option StoredTenant) → tenant_named l desk name ≡ o → spent_of old name ≡ unwrap_or (option_map (λ (r : StoredTenant). r.spent) o) 0
    had None none = first (is.granted name ∙ ap (option_map (λ (r : StoredTenant). r.granted)) none)
    had (Some r) there = is.spent name r there

    kept : (q : List ℕ) (b : Bool) → bytes_eq name q ≡ b → (r : StoredTenant) → cond b (Some t) (tenant_named l desk q) ≡ Some r → spent_of old q ≡ r.spent
    kept q true here r there =
        let own : t ≡ r = cc in
        ap (spent_of old) (sym ((bytes_eq-Decides name q).0 here)) ∙ had (tenant_named l desk name) refl ∙ sym row.spent ∙ ap (λ (x : StoredTenant). x.spent) own
    kept q false here r there = is.spent q r there

-- ---- jobs

pub stands_by : (a b : Option JobEntry) (c d : Option StoredJob) (e f : Option StoredOutcome) → a ≡ b → c ≡ d → e ≡ f → StandsAs a c e → StandsAs b d f
stands_by a b c d e f p q r h = subst (λ x. StandsAs x d f) p (subst (λ y. StandsAs a y f) q (subst (λ z. StandsAs a c z) r h))

pub at_number : (jobs : List JobEntry) (number : ℕ) → 1 ≤ number → job_at jobs number ≡ slice_get jobs (number - 1)
at_number jobs number first =
    let there : nat_eq number 0 ≡ false = grind (arith, nat_tests) in
    rw there refl

-- ---- a submit

pub spent_open : (q : List ℕ) (entry : JobEntry) → entry.standing ≡ stands.Open → spent_for q entry ≡ 0
spent_open q entry opened = go (bytes_eq q (string_bytes entry.tenant)) refl
  where
    go : (b : Bool) → bytes_eq q (string_bytes entry.tenant) ≡ b → spent_for q entry ≡ 0
    go true here = spent_own q entry (sym ((bytes_eq-Decides q (string_bytes entry.tenant)).0 here)) ∙ ap spent_by_job opened
    go false here = spent_apart q entry here

-- where there is no job there is no outcome
none_there : (job : Option StoredJob) (outcome : Option StoredOutcome) → StandsAs None job outcome → outcome ≡ None
none_there None None is = refl
none_there None (Some outcome) is = absurd is
none_there (Some job) outcome is = absurd is

pub taken_kept : (desk : ℕ) (l : Ledgers) (old new : Ledger) (name : List ℕ) (t : TakenJob) → IsLedgerOf desk l old → Takes old name t.job.credit new → t.job.desk ≡ desk → t.job.tenant ≡ name
    → t.job.number ≡ length old.jobs + 1 → t.job.number < most_numbers → All (HasFewerKeyed desk (length old.jobs + 1)) (made l (Taken t)).keys → IsLedgerOf desk (made l (Taken t)) new
taken_kept desk l old new name t is takes at named numbered small keyed = record {
  granted = λ q. takes.jobs.grants q ∙ is.granted q;
  spent = λ q r there. same q ∙ is.spent q r there;
  jobs = λ number first small. go number first small (cases_eq number job.number);
  taken = subst (λ (n : ℕ). HasTaken desk (made l (Taken t)) n) (sym long) all_taken;
}
  where
    job : StoredJob
    job = t.job

    long : length new.jobs ≡ length old.jobs + 1
    long = ap length takes.jobs.jobs ∙ length-append old.jobs (takes.entry ∷ [])

    same : (q : List ℕ) → spent_of new q ≡ spent_of old q
    same q =
        let jobs : spent_by_jobs new.jobs q ≡ spent_by_jobs old.jobs q + spent_for q takes.entry = ap (λ js. spent_by_jobs js q) takes.jobs.jobs ∙ sum_by_push (spent_for q) old.jobs takes.entry in
        omega (arith, takes.jobs.past q, jobs, spent_open q takes.entry takes.opened)

    found : (number : ℕ) → job_record (made l (Taken t)) desk number ≡ cond (int_eq (pos (id_of desk job.number)) (pos (id_of desk number))) (Some job) (job_record l desk number)
    found number = get_put stored_job_key l.jobs job (pos (id_of desk number)) ∙ ap (λ d. cond (int_eq (pos (id_of d job.number)) (pos (id_of desk number))) (Some job) (job_record l desk number)) at

    itself_there : (number : ℕ) → number ≡ job.number → job_record (made l (Taken t)) desk number ≡ Some job
    itself_there number same =
        found number ∙ ap (λ n. cond (int_eq (pos (id_of desk job.number)) (pos (id_of desk n))) (Some job) (job_record l desk number)) same ∙ ap (λ b. cond b (Some job) (job_record l desk number)) (itself (pos (id_of desk job.number)))

    all_taken : HasTaken desk (made l (Taken t)) (length old.jobs + 1)
    all_taken = record {
      few = omega (arith, numbered, small);
      jobs = all_insert (HasFewerJobs desk (length old.jobs + 1)) stored_job_key l.jobs job
          (all_weaker (HasFewerJobs desk (length old.jobs)) (HasFewerJobs desk (length old.jobs + 1)) (λ j fewer own. let p = fewer own in omega (arith, p)) l.jobs is.taken.jobs)
          (λ own. omega (arith, numbered));
      desks = all_weaker (HasFewerTaken desk (length old.jobs)) (HasFewerTaken desk (length old.jobs + 1)) (λ d fewer own. let p = fewer own in omega (arith, p)) l.desks is.taken.desks;
      keys = keyed;
      last = inr (inl (job, itself_there (length old.jobs + 1) (sym numbered)));
    }

    go : (number : ℕ) → 1 ≤ number → number < most_numbers → (number ≡ job.number) ⊎ (number ≡ job.number → ⊥) → StandsAs (job_at new.jobs number) (job_record (made l (Taken t)) desk number) (outcome_record l desk number)
    go number first small (inl same) =
        let last : number - 1 ≡ length old.jobs = omega (arith, same, numbered) in
        let entry : job_at new.jobs number ≡ Some takes.entry = at_number new.jobs number first ∙ ap (λ js. slice_get js (number - 1)) takes.jobs.jobs ∙ ap (slice_get (old.jobs ++ takes.entry ∷ [])) last ∙ get_last old.jobs takes.entry in
        let none_before : job_at old.jobs number ≡ None = at_number old.jobs number first ∙ ap (slice_get old.jobs) last ∙ past_last old.jobs in
        let outcome : outcome_record l desk number ≡ None = none_there (job_record l desk number) _ (subst (λ x. StandsAs x (job_record l desk number) (outcome_record l desk number)) none_before (is.jobs number first small)) in
        stands_by (Some takes.entry) _ (Some job) _ None _ (sym entry) (sym (itself_there number same)) (sym outcome) (record { tenant = takes.tenant ∙ sym named; credit = takes.credited }, takes.opened)
    go number first small (inr other) =
        let before : number - 1 ≡ length old.jobs → ⊥ = λ same. other (omega (arith, same, numbered, first)) in
        let entry : job_at old.jobs number ≡ job_at new.jobs number =
        at_number old.jobs number first ∙ sym (get_other old.jobs takes.entry (number - 1) before) ∙ ap (λ js. slice_get js (number - 1)) (sym takes.jobs.jobs) ∙ sym (at_number new.jobs number first) in
        let row : job_record l desk number ≡ job_record (made l (Taken t)) desk number = sym (found number ∙ ap (λ b. cond b (Some job) (job_record l desk number)) (apart desk job.number number (λ same. other (sym same)))) in
        stands_by _ _ _ _ _ _ entry row refl (is.jobs number first small)

-- ---- an end

-- an open job has its record, and no outcome
open_there : (entry : JobEntry) (job : Option StoredJob) (outcome : Option StoredOutcome) → entry.standing ≡ stands.Open → StandsAs (Some entry) job outcome → (j : StoredJob) × (job ≡ Some j) × IsTakenAs entry j
open_there entry None None opened is = absurd (cc (opened, is.standing))
open_there entry None (Some outcome) opened is = absurd is
open_there entry (Some job) None opened is = (job, refl, is.0)
open_there entry (Some job) (Some outcome) opened is = absurd (subst (λ s. CameTo s outcome.outcome) opened is.1)

length_set : {X : Type 0} (xs : List X) (i : ℕ) (y : X) → length (slice_set xs i y) ≡ length xs
length_set [] i y = refl
length_set (x ∷ xs) zero y = refl
length_set (x ∷ xs) (suc i) y = ap suc (length_set xs i y)

-- a sum behind the change of one job
set_sums : (f : JobEntry → ℕ) (jobs : List JobEntry) (i : ℕ) (entry e : JobEntry) → slice_get jobs i ≡ Some entry → sum_by f (slice_set jobs i e) + f entry ≡ sum_by f jobs + f e
set_sums f jobs i entry e at =
    let is : get_or jobs i entry ≡ entry = get_or_from_slice_get jobs i entry entry at in
    rw (← ap f is) (sum_by-set f jobs i e entry (slice_get_within jobs i entry at))

pub settled_kept : (desk : ℕ) (l : Ledgers) (old new : Ledger) (number : ℕ) (outcome : Result Report ℕ) (s : SettledJob) → IsLedgerOf desk l old → Finishes old number outcome new → AreRowsOfEnd desk l number outcome s
    → 1 ≤ number → number < most_numbers → IsLedgerOf desk (made l (Settled s)) new
settled_kept desk l old new ended outcome s is ends rows counted fits = record {
  granted = λ q. ends.jobs.grants q ∙ is.granted q ∙ sums q (is_tenant desk q s.tenant) refl ∙ sym (ap (option_map (λ (r : StoredTenant). r.granted)) (found_tenant q));
  spent = λ q r there. kept q (is_tenant desk q s.tenant) refl r (sym (found_tenant q) ∙ there);
  jobs = λ number first small. go number first small (cases_eq number ended);
  taken = subst (λ (n : ℕ). HasTaken desk (made l (Settled s)) n) (sym long) (record { few = is.taken.few; jobs = is.taken.jobs; desks = is.taken.desks; keys = is.taken.keys; last = is.taken.last });
}
  where
    o : StoredOutcome
    o = s.outcome

    after : JobEntry
    after = record ends.entry { standing = settled ends.entry.credit outcome }

    long : length new.jobs ≡ length old.jobs
    long = ap length ends.jobs.jobs ∙ length_set old.jobs (ended - 1) after

    there : (j : StoredJob) × (job_record l desk ended ≡ Some j) × IsTakenAs ends.entry j
    there = open_there ends.entry _ _ ends.opened (subst (λ x. StandsAs x (job_record l desk ended) (outcome_record l desk ended)) ends.was (is.jobs ended counted fits))

    one_job : there.0 ≡ rows.job
    one_job = let p : Some there.0 ≡ Some rows.job = sym there.1 ∙ rows.was in cc

    credit : ends.entry.credit ≡ rows.job.credit
    credit = there.2.credit ∙ ap (λ (j : StoredJob). j.credit) one_job

    name : string_bytes ends.entry.tenant ≡ rows.job.tenant
    name = there.2.tenant ∙ ap (λ (j : StoredJob). j.tenant) one_job

    standing : settled ends.entry.credit outcome ≡ settled rows.job.credit outcome
    standing = ap (λ (c : ℕ). settled c outcome) credit

    was : slice_get old.jobs (ended - 1) ≡ Some ends.entry
    was = sym (at_number old.jobs ended counted) ∙ ends.was

    owner : (rows.row.desk ≡ desk) × (rows.row.name ≡ rows.job.tenant)
    owner = tenant_found desk rows.job.tenant l.tenants rows.row rows.had

    row_is : (q : List ℕ) → is_tenant desk q s.tenant ≡ bytes_eq rows.job.tenant q
    row_is q = ap (is_tenant desk q) rows.tenant ∙ own_name desk rows.job.tenant q (record rows.row { spent = rows.row.spent + spent_by_job (settled rows.job.credit outcome) }) owner.0 owner.1

    found_tenant : (q : List ℕ) → tenant_named (made l (Settled s)) desk q ≡ cond (is_tenant desk q s.tenant) (Some s.tenant) (tenant_named l desk q)
    found_tenant q = find_put desk q l.tenants s.tenant rows.own

    sums : (q : List ℕ) (b : Bool) → is_tenant desk q s.tenant ≡ b → option_map (λ (r : StoredTenant). r.granted) (tenant_named l desk q) ≡ option_map (λ (r : StoredTenant). r.granted) (cond b (Some s.tenant) (tenant_named l desk q))
    sums q true here =
        let own : rows.job.tenant ≡ q = (bytes_eq-Decides rows.job.tenant q).0 (sym (row_is q) ∙ here) in
        ap (λ (n : List ℕ). option_map (λ (r : StoredTenant). r.granted) (tenant_named l desk n)) (sym own) ∙ ap (option_map (λ (r : StoredTenant). r.granted)) rows.had ∙ ap (λ (r : StoredTenant). Some r.granted) (sym rows.tenant)
    sums q false here = refl

    cost : (q : List ℕ) → spent_of new q ≡ spent_of old q + spent_for q after
    cost q =
        let jobs : spent_by_jobs new.jobs q ≡ sum_by (spent_for q) (slice_set old.jobs (ended - 1) after) = ap (λ js. spent_by_jobs js q) ends.jobs.jobs in
        omega (arith, ends.jobs.past q, jobs, set_sums (spent_for q) old.jobs (ended - 1) ends.entry after was, spent_open q ends.entry ends.opened)

    kept : (q : List ℕ) (b : Bool) → is_tenant desk q s.tenant ≡ b → (r : StoredTenant) → cond b (Some s.tenant) (tenant_named l desk q) ≡ Some r → spent_of new q ≡ r.spent
    kept q true here r there =
        let same : s.tenant ≡ r = cc in
        let own : rows.job.tenant ≡ q = (bytes_eq-Decides rows.job.tenant q).0 (sym (row_is q) ∙ here) in
        let before : spent_of old q ≡ rows.row.spent = ap (spent_of old) (sym own) ∙ is.spent rows.job.tenant rows.row rows.had in
        let more : spent_for q after ≡ spent_by_job (settled rows.job.credit outcome) = spent_own q after (name ∙ own) ∙ ap spent_by_job standing in
        let told : r.spent ≡ rows.row.spent + spent_by_job (settled rows.job.credit outcome) = ap (λ (x : StoredTenant). x.spent) (sym same ∙ rows.tenant) in
        omega (arith, cost q, before, more, told)
    kept q false here r there =
        let other : bytes_eq q (string_bytes after.tenant) ≡ false = bytes_apart (string_bytes after.tenant) q (ap (λ n. bytes_eq n q) name ∙ sym (row_is q) ∙ here) in
        omega (arith, cost q, spent_apart q after other, is.spent q r there)

    found : (number : ℕ) → outcome_record (made l (Settled s)) desk number ≡ cond (int_eq (pos (id_of desk ended)) (pos (id_of desk number))) (Some o) (outcome_record l desk number)
    found number =
        get_put outcome_key l.outcomes o (pos (id_of desk number)) ∙ ap (λ d. cond (int_eq (pos (id_of d o.number)) (pos (id_of desk number))) (Some o) (outcome_record l desk number)) rows.at
        ∙ ap (λ n. cond (int_eq (pos (id_of desk n)) (pos (id_of desk number))) (Some o) (outcome_record l desk number)) rows.numbered

    go : (number : ℕ) → 1 ≤ number → number < most_numbers → (number ≡ ended) ⊎ (number ≡ ended → ⊥) → StandsAs (job_at new.jobs number) (job_record l desk number) (outcome_record (made l (Settled s)) desk number)
    go number first small (inl same) =
        let entry : job_at new.jobs number ≡ Some after =
        at_number new.jobs number first ∙ ap (λ js. slice_get js (number - 1)) ends.jobs.jobs ∙ ap (λ n. slice_get (slice_set old.jobs (ended - 1) after) (n - 1)) same ∙ set_here old.jobs (ended - 1) ends.entry after was in
        let row : outcome_record (made l (Settled s)) desk number ≡ Some o =
        found number ∙ ap (λ n. cond (int_eq (pos (id_of desk ended)) (pos (id_of desk n))) (Some o) (outcome_record l desk number)) same ∙ ap (λ b. cond b (Some o) (outcome_record l desk number)) (itself (pos (id_of desk ended))) in
        let job : job_record l desk number ≡ Some there.0 = ap (job_record l desk) same ∙ there.1 in
        stands_by (Some after) _ (Some there.0) _ (Some o) _ (sym entry) (sym job) (sym row)
        (record { tenant = there.2.tenant; credit = there.2.credit }, subst (λ st. CameTo st o.outcome) (sym standing) rows.came)
    go number first small (inr other) =
        let before : number - 1 ≡ ended - 1 → ⊥ = λ same. other (omega (arith, same, first, counted)) in
        let entry : job_at old.jobs number ≡ job_at new.jobs number =
        at_number old.jobs number first ∙ sym (set_other old.jobs (ended - 1) (number - 1) after before) ∙ ap (λ js. slice_get js (number - 1)) (sym ends.jobs.jobs) ∙ sym (at_number new.jobs number first) in
        let row : outcome_record l desk number ≡ outcome_record (made l (Settled s)) desk number = sym (found number ∙ ap (λ b. cond b (Some o) (outcome_record l desk number)) (apart desk ended number (λ same. other (sym same)))) in
        stands_by _ _ _ _ _ _ entry refl row (is.jobs number first small)
