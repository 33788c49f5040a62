-- Jobs that are forgotten, by the ledger and by its records.
use Rattle.std.proofs.Common.{◌≡◌, ◌+◌, ◌-◌, ◌<◌, ◌≤◌, ◌⊎◌, ℕ, zero, suc, pos, All, Bool, true, false, cond, int_eq, List, [], ◌∷◌, length, nat_le, Option, Some, None, Result, Ok, Err, refl, sym, ap, subst, ◌∙◌, arith, inl, inr, option_map, slice_get}
use Rattle.std.proofs.lemmas.Bool.Decides.{nat_tests}
use Rattle.accounts.specs.Accounts.{account_with}
use Rattle.accounts.specs.Forgetting.{ForgetsJobs, IsGone}
use Rattle.accounts.specs.Jobs.{is_open, job_at}
use Rattle.accounts.specs.Ledgers.{Forgets, Ledger, account_at, account_in, granted_to, opened_by, past_of, spent_by_jobs}
use Rattle.accounts.specs.declared.fault.DeskFault.{DeskFault}
use Rattle.accounts.specs.declared.jobs.JobEntry.{JobEntry}
use Rattle.accounts.specs.declared.jobs.JobStanding.{JobStanding}
use Rattle.accounts.specs.declared.jobs.JobStanding.TheVariants as stands
use Rattle.accounts.specs.declared.tenants.Account.{Account}
use Rattle.sqlite_keyed.specs.Keyed.{get_by}
use Rattle.desk_records.specs.Columns.{id_of, most_numbers}
use Rattle.desk_records.specs.Made.{desk_key, jobs_left, made, outcome_key, outcomes_left, stored_job_key}
use Rattle.desk_records.specs.Stored.{Ledgers}
use Rattle.desk_records.specs.declared.stored_change.ForgottenJobs.{ForgottenJobs}
use Rattle.desk_records.specs.declared.stored_change.StoredChange.TheVariants.{Forgotten}
use Rattle.desk_records.specs.declared.stored_desk.StoredDesk.{StoredDesk}
use Rattle.desk_records.specs.declared.stored_job.StoredJob.{StoredJob}
use Rattle.desk_records.specs.declared.stored_outcome.StoredOutcome.{StoredOutcome}
use Rattle.desk_records.specs.declared.stored_outcome.StoredResult.{StoredResult}
use Rattle.desk_records.specs.declared.stored_tenant.StoredTenant.{StoredTenant}
use Rattle.desk_records.proofs.MadeLemmas.{all_insert}
use Rattle.ledger_records.specs.ChangedRows.{AreRowsOfForgotten, IsOverAhead, is_number_in}
use Rattle.ledger_records.specs.LedgerRecords.{CameTo, HasFewerJobs, HasFewerTaken, HasTaken, IsLedgerOf, StandsAs, desk_record, job_record, outcome_record, spent_of, tenant_named}
use Rattle.ledger_records.proofs.Finding.{all_left, get_put, itself, left_gone, left_there}
use Rattle.ledger_records.proofs.Steps.{at_number, stands_by}

-- accounts that are the same have the same spent
same_spent : (jobs more : List JobEntry) (past after : ℕ) (name : List ℕ) (g : ℕ) → account_in jobs past name (Some g) ≡ account_in more after name (Some g) → past + spent_by_jobs jobs name ≡ after + spent_by_jobs more name
same_spent jobs more past after name g same =
    let one : account_with g (opened_by jobs name) (past + spent_by_jobs jobs name) ≡ account_with g (opened_by more name) (after + spent_by_jobs more name) = cc same in
    ap (λ (a : Account). a.spent) one

spent_stays : (old new : Ledger) (ahead : ℕ) (name : List ℕ) (g : ℕ) → Forgets old ahead new → granted_to old name ≡ Some g → spent_of new name ≡ spent_of old name
unfolding account_at
spent_stays old new ahead name g forgets granted =
    same_spent new.jobs old.jobs (past_of new name) (past_of old name) name g
    (ap (account_in new.jobs (past_of new name) name) (sym (forgets.grants name ∙ granted)) ∙ forgets.accounts name ∙ ap (account_in old.jobs (past_of old name) name) granted)

-- a job that came to something is over
came_over : (standing : JobStanding) (result : StoredResult) → CameTo standing result → is_open standing ≡ false
came_over stands.Open result came = absurd came
came_over (stands.Reported report) result came = refl
came_over (stands.Failed code) result came = refl

-- a job with an outcome is over
over_there : (entry : JobEntry) (job : Option StoredJob) (o : StoredOutcome) → StandsAs (Some entry) job (Some o) → is_open entry.standing ≡ false
over_there entry None o is = absurd is
over_there entry (Some job) o is = came_over entry.standing o.outcome is.1

none_open : (job : Option StoredJob) (o : StoredOutcome) → StandsAs None job (Some o) → ⊥
none_open None o is = is
none_open (Some job) o is = is

pub past_end : {X : Type 0} (xs : List X) (i : ℕ) → length xs ≤ i → slice_get xs i ≡ None
past_end [] i long = refl
past_end (x ∷ xs) zero long = absurd (omega (arith, long))
past_end (x ∷ xs) (suc i) long = past_end xs i (omega (arith, long))

pub get_none : {X : Type 0} (xs : List X) (i : ℕ) → slice_get xs i ≡ None → length xs ≤ i
get_none [] i none = omega arith
get_none (x ∷ xs) zero none = absurd (cc)
get_none (x ∷ xs) (suc i) none = let p = get_none xs i none in omega (arith, p)

-- a job that is gone stays gone
gone_over : (entry : JobEntry) → IsGone entry → is_open entry.standing ≡ false
gone_over entry gone = ap is_open gone.standing

module _ (desk : ℕ) (l : Ledgers) (old new : Ledger) (ahead : ℕ) (f : ForgottenJobs) (is : IsLedgerOf desk l old) (forgets : Forgets old ahead new) (rows : AreRowsOfForgotten desk l ahead f) where
  abbrev after : Ledgers
  after = made l (Forgotten f)

  job_at_own : (number : ℕ) → job_record after desk number ≡ get_by stored_job_key after.jobs (pos (id_of f.desk.desk number))
  job_at_own number = ap (λ d. get_by stored_job_key after.jobs (pos (id_of d number))) (sym rows.at)

  outcome_at_own : (number : ℕ) → outcome_record after desk number ≡ get_by outcome_key after.outcomes (pos (id_of f.desk.desk number))
  outcome_at_own number = ap (λ d. get_by outcome_key after.outcomes (pos (id_of d number))) (sym rows.at)

  job_same : (number : ℕ) → is_number_in number f.numbers.items ≡ false → job_record after desk number ≡ job_record l desk number
  job_same number among = job_at_own number ∙ left_there stored_job_key f.desk.desk l.jobs f.numbers.items number among ∙ ap (λ d. get_by stored_job_key l.jobs (pos (id_of d number))) rows.at

  outcome_same : (number : ℕ) → is_number_in number f.numbers.items ≡ false → outcome_record after desk number ≡ outcome_record l desk number
  outcome_same number among = outcome_at_own number ∙ left_there outcome_key f.desk.desk l.outcomes f.numbers.items number among ∙ ap (λ d. get_by outcome_key l.outcomes (pos (id_of d number))) rows.at

  -- the entry of a job that is over, up to the last one
  gone_there : (number : ℕ) (entry : JobEntry) → 1 ≤ number → number ≤ ahead → slice_get old.jobs (number - 1) ≡ Some entry → is_open entry.standing ≡ false → (x : JobEntry) × (slice_get new.jobs (number - 1) ≡ Some x) × IsGone x
  gone_there number entry first within at over = forgets.jobs.gone (number - 1) entry (omega (arith, first, within)) at over

  goes : (number : ℕ) → 1 ≤ number → number < most_numbers → is_number_in number f.numbers.items ≡ true → StandsAs (job_at new.jobs number) (job_record after desk number) (outcome_record after desk number)
  goes number first small among = by_entry (slice_get old.jobs (number - 1)) refl
    where
      over : IsOverAhead desk l ahead number
      over = rows.over number among

      before : (entry : Option JobEntry) → slice_get old.jobs (number - 1) ≡ entry → StandsAs entry (job_record l desk number) (Some over.outcome)
      before entry at = stands_by _ entry _ _ _ (Some over.outcome) (at_number old.jobs number first ∙ at) refl over.is (is.jobs number first small)

      by_entry : (entry : Option JobEntry) → slice_get old.jobs (number - 1) ≡ entry → StandsAs (job_at new.jobs number) (job_record after desk number) (outcome_record after desk number)
      by_entry None at = absurd (none_open (job_record l desk number) over.outcome (before None at))
      by_entry (Some entry) at =
          let x = gone_there number entry first over.within at (over_there entry (job_record l desk number) over.outcome (before (Some entry) at)) in
          stands_by (Some x.0) _ None _ None _ (sym (at_number new.jobs number first ∙ x.1))
          (sym (job_at_own number ∙ left_gone stored_job_key f.desk.desk l.jobs f.numbers.items number among))
          (sym (outcome_at_own number ∙ left_gone outcome_key f.desk.desk l.outcomes f.numbers.items number among)) x.2

  stays : (number : ℕ) → 1 ≤ number → number < most_numbers → is_number_in number f.numbers.items ≡ false → (job : Option StoredJob) (o : Option StoredOutcome) → outcome_record l desk number ≡ o → (entry : JobEntry) → slice_get old.jobs (number - 1) ≡ Some entry
      → StandsAs (Some entry) job o → StandsAs (slice_get new.jobs (number - 1)) job o
  stays number first small among None None told entry at stands = by_place (nat_le number ahead) refl
    where
      by_place : (b : Bool) → nat_le number ahead ≡ b → StandsAs (slice_get new.jobs (number - 1)) None None
      by_place true here =
          let x = gone_there number entry first (grind (arith, nat_tests, here)) at (gone_over entry stands) in
          subst (λ e. StandsAs e None None) (sym x.1) x.2
      by_place false here =
          let behind : ahead ≤ number - 1 = grind (arith, nat_tests, here, first) in
          subst (λ e. StandsAs e None None) (sym (forgets.jobs.same (number - 1) entry at (inl behind))) stands
  stays number first small among None (Some o) told entry at stands = absurd stands
  stays number first small among (Some job) None told entry at stands = subst (λ e. StandsAs e (Some job) None) (sym (forgets.jobs.same (number - 1) entry at (inr (ap is_open stands.1)))) stands
  stays number first small among (Some job) (Some o) told entry at stands = by_place (nat_le number ahead) refl
    where
      by_place : (b : Bool) → nat_le number ahead ≡ b → StandsAs (slice_get new.jobs (number - 1)) (Some job) (Some o)
      by_place true here = let clash = rows.all number o first small (grind (arith, nat_tests, here)) told in absurd (cc (clash, among))
      by_place false here =
          let behind : ahead ≤ number - 1 = grind (arith, nat_tests, here, first) in
          subst (λ e. StandsAs e (Some job) (Some o)) (sym (forgets.jobs.same (number - 1) entry at (inl behind))) stands

  left_as_it_was : (number : ℕ) → 1 ≤ number → number < most_numbers → is_number_in number f.numbers.items ≡ false → (entry : Option JobEntry) → slice_get old.jobs (number - 1) ≡ entry → StandsAs entry (job_record l desk number) (outcome_record l desk number)
      → StandsAs (slice_get new.jobs (number - 1)) (job_record l desk number) (outcome_record l desk number)
  left_as_it_was number first small among None at stands =
      let behind : length old.jobs ≤ number - 1 = get_none old.jobs (number - 1) at in
      let long : length new.jobs ≡ length old.jobs = forgets.jobs.count in
      let none : slice_get new.jobs (number - 1) ≡ None = past_end new.jobs (number - 1) (omega (arith, behind, long)) in
      subst (λ e. StandsAs e (job_record l desk number) (outcome_record l desk number)) (sym none) stands
  left_as_it_was number first small among (Some entry) at stands = stays number first small among (job_record l desk number) (outcome_record l desk number) refl entry at stands

  job_stands : (number : ℕ) → 1 ≤ number → number < most_numbers → (b : Bool) → is_number_in number f.numbers.items ≡ b → StandsAs (job_at new.jobs number) (job_record after desk number) (outcome_record after desk number)
  job_stands number first small true among = goes number first small among
  job_stands number first small false among =
      stands_by _ _ _ _ _ _ (sym (at_number new.jobs number first)) (sym (job_same number among)) (sym (outcome_same number among))
      (left_as_it_was number first small among (slice_get old.jobs (number - 1)) refl (stands_by _ _ _ _ _ _ (at_number old.jobs number first) refl refl (is.jobs number first small)))

  told_by_desk : f.desk.taken ≡ length old.jobs
  told_by_desk = rows.taken (length old.jobs) is.taken

  desk_there : desk_record after desk ≡ Some f.desk
  desk_there =
      get_put desk_key l.desks f.desk (pos desk) ∙ ap (λ (d : ℕ). cond (int_eq (pos d) (pos desk)) (Some f.desk) (desk_record l desk)) rows.at ∙ ap (λ b. cond b (Some f.desk) (desk_record l desk)) (itself (pos desk))

  all_taken : HasTaken desk after (length old.jobs)
  all_taken = record {
    few = is.taken.few;
    jobs = all_left stored_job_key (HasFewerJobs desk (length old.jobs)) f.desk.desk l.jobs f.numbers.items is.taken.jobs;
    desks = all_insert (HasFewerTaken desk (length old.jobs)) desk_key l.desks f.desk is.taken.desks (λ own. omega (arith, told_by_desk));
    keys = is.taken.keys;
    last = inr (inr (f.desk, desk_there, told_by_desk));
  }

  pub forgotten_kept : IsLedgerOf desk after new
  forgotten_kept = record {
    granted = λ q. forgets.grants q ∙ is.granted q;
    spent = λ q r there. spent_stays old new ahead q r.granted forgets (is.granted q ∙ ap (option_map (λ (t : StoredTenant). t.granted)) there) ∙ is.spent q r there;
    jobs = λ number first small. job_stands number first small (is_number_in number f.numbers.items) refl;
    taken = subst (λ (n : ℕ). HasTaken desk after n) (sym forgets.jobs.count) all_taken;
  }
