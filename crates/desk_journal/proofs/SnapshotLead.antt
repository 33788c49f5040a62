-- The changes of a snapshot lead from a desk with the accounts to the desk itself.
use Rattle.std.proofs.Common.{◌≡◌, ◌⊎◌, ◌+◌, ◌-◌, ◌≤◌, ◌<◌, ◌^◌, ℕ, zero, suc, Vec, Global, Bool, true, false, cond, List, [], ◌∷◌, ◌++◌, append_assoc, length, sum_by, slice_get, Option, Some, None, unwrap_or, Result, Ok, Err, refl, sym, ap, subst, ◌∙◌, inl, inr, arith}
use Rattle.std.specs.Prelude.{All, string_bytes}
use Rattle.std.specs.Map.{lookup}
use Rattle.std.specs.Str.{bytes_eq}
use Rattle.std.proofs.lemmas.Slice.Eq.{bytes_eq-Decides}
use Rattle.std.proofs.lemmas.List.{append-nil, length-append}
use Rattle.std.proofs.lemmas.List.Sums.{sum_by-append}
use Rattle.accounts.specs.Forgetting.{IsGone, IsJobOver}
use Rattle.accounts.specs.Jobs.{is_open, opened_for, opened_in, spent_by_job, spent_for}
use Rattle.accounts.specs.Ledgers.{HasBalance, Ledger, Takes, account_at, account_in, granted_to, opened_by, past_of, spent_by_jobs}
use Rattle.accounts.specs.Restoring.{AddsGone, AreTenantsJobs, Recalls}
use Rattle.accounts.specs.declared.fault.DeskFault.{DeskFault}
use Rattle.accounts.specs.declared.jobs.JobEntry.{JobEntry}
use Rattle.accounts.specs.declared.jobs.JobStanding.{JobStanding}
use Rattle.accounts.specs.declared.jobs.JobStanding.TheVariants.{Open, Reported, Failed}
use Rattle.accounts.specs.declared.tenants.Account.{Account}
use Rattle.accounts.proofs.Listed.{get_within, same_some}
use Rattle.job_core.specs.Admission.{IsAdmittedFrom}
use Rattle.job_core.specs.declared.admission.ProgramBytes.{ProgramBytes}
use Rattle.recovery.specs.Histories.{ReplaysChanges}
use Rattle.desk_journal.specs.DeskChanges.{change_bytes}
use Rattle.desk_journal.specs.DeskSteps.{DeskState, Makes, MakesBytes, PutsBack}
use Rattle.desk_journal.specs.HeldJobs.{AreHeldFrom, IsTakingChange, IsTakenBy, none_left, one_over, one_open}
use Rattle.desk_journal.specs.SnapshotChanges.{AreJobChanges, IsFailureChange, IsGoneChange, IsReportChange, last_run, one_run, one_kept, one_taken}
use Rattle.desk_journal.specs.declared.change.DeskChange.{DeskChange}
use Rattle.desk_journal.specs.declared.change.DeskChange.TheVariants.{Submitted, JobsSkipped, ReportKept, FailureKept}
use Rattle.desk_journal.specs.declared.journaled_desk.OpenJob.{OpenJob}
use Rattle.desk_journal.proofs.HeldLemmas.{all_first, all_rest, gone_over}

-- ---- sums

pub sum_two : {X : Type 0} (f : X → ℕ) (x : X) (xs : List X) → sum_by f (x ∷ xs) ≡ f x + sum_by f xs
sum_two f x xs =
    let all : sum_by f (x ∷ xs) ≡ sum_by f (x ∷ []) + sum_by f xs = sum_by-append f (x ∷ []) xs in
    let one : sum_by f (x ∷ []) ≡ 0 + f x = refl in
    omega (arith, all, one)

cond_same : (b : Bool) (n : ℕ) → n ≡ 0 → cond b n 0 ≡ 0
cond_same true n is = is
cond_same false n is = refl

pub spent_gone : (q : List ℕ) (entry : JobEntry) → IsGone entry → spent_for q entry ≡ 0
unfolding spent_for
spent_gone q entry gone = cond_same (bytes_eq q (string_bytes entry.tenant)) (spent_by_job entry.standing) (ap spent_by_job gone.standing)

pub gone_spent : (q : List ℕ) (gone : List JobEntry) → All IsGone gone → spent_by_jobs gone q ≡ 0
gone_spent q [] all = refl
gone_spent q (entry ∷ gone) all =
    let first = spent_gone q entry (all_first entry gone all) in
    let rest = gone_spent q gone (all_rest entry gone all) in
    omega (arith, first, rest, sum_two (spent_for q) entry gone)

pub spent_open : (q : List ℕ) (entry : JobEntry) → entry.standing ≡ Open → spent_for q entry ≡ 0
unfolding spent_for
spent_open q entry opened = cond_same (bytes_eq q (string_bytes entry.tenant)) (spent_by_job entry.standing) (ap spent_by_job opened)

opened_own : (entry : JobEntry) → entry.standing ≡ Open → opened_for (string_bytes entry.tenant) entry ≡ entry.credit
unfolding opened_for
opened_own entry opened =
    ap (λ (b : Bool). cond b (opened_in entry entry.standing) 0) (own (string_bytes entry.tenant)) ∙ ap (λ (s : JobStanding). opened_in entry s) opened
  where
    own : (name : List ℕ) → bytes_eq name name ≡ true
    own name = (bytes_eq-Decides name name).1 refl

-- ---- what is past, with some jobs counted as forgotten

abbrev past_with : List (List ℕ × ℕ) → List JobEntry → List (List ℕ × ℕ)
past_with past [] = past
past_with past (entry ∷ jobs) =
    (string_bytes entry.tenant, unwrap_or (lookup (bytes_eq (string_bytes entry.tenant)) (past_with past jobs)) 0 + spent_by_job entry.standing) ∷ past_with past jobs

abbrev past_sum : List (List ℕ × ℕ) → List ℕ → ℕ
past_sum past q = unwrap_or (lookup (bytes_eq q) past) 0

past_first : (q name : List ℕ) (cost : ℕ) (past : List (List ℕ × ℕ)) (b : Bool) → bytes_eq q name ≡ b → past_sum ((name, past_sum past name + cost) ∷ past) q ≡ past_sum past q + cond b cost 0
past_first q name cost past true is =
    let same : q ≡ name = (bytes_eq-Decides q name).0 is in
    ap (λ (c : Bool). unwrap_or (cond c (Some (past_sum past name + cost)) (lookup (bytes_eq q) past)) 0) is ∙ ap (λ (n : List ℕ). past_sum past n + cost) (sym same)
past_first q name cost past false is =
    ap (λ (c : Bool). unwrap_or (cond c (Some (past_sum past name + cost)) (lookup (bytes_eq q) past)) 0) is ∙ omega arith

past_with_is : (past : List (List ℕ × ℕ)) (jobs : List JobEntry) (q : List ℕ) → past_sum (past_with past jobs) q ≡ past_sum past q + spent_by_jobs jobs q
unfolding spent_for
past_with_is past [] q = omega arith
past_with_is past (entry ∷ jobs) q =
    let first = past_first q (string_bytes entry.tenant) (spent_by_job entry.standing) (past_with past jobs) (bytes_eq q (string_bytes entry.tenant)) refl in
    let rest = past_with_is past jobs q in
    omega (arith, first, rest, sum_two (spent_for q) entry jobs)

-- ---- jobs ahead of the rest

-- behind a run of gone jobs the others are held as before
pub held_after : (n : ℕ) (gone jobs : List JobEntry) (held : List OpenJob) (sources : List (Vec ℕ Global)) → All IsGone gone → AreHeldFrom n (gone ++ jobs) held sources → AreHeldFrom (n + length gone) jobs held sources
held_after n [] jobs held sources all are = subst (λ (k : ℕ). AreHeldFrom k jobs held sources) (omega arith) are
held_after n (entry ∷ gone) jobs held sources all (one_over number first others held_others sources_others is_over rest) =
    let later = held_after (number + 1) gone jobs held_others sources_others (all_rest entry gone all) rest in
    subst (λ (k : ℕ). AreHeldFrom k jobs held_others sources_others) (omega arith) later
held_after n (entry ∷ gone) jobs held sources all (one_open number first others job held_others source sources_others numbered taken rest) =
    let clash : false ≡ true = sym (gone_over first (all_first first gone all)) ∙ ap is_open taken.opened in
    absurd cc

pub none_held : (n : ℕ) (gone : List JobEntry) (held : List OpenJob) (sources : List (Vec ℕ Global)) → All IsGone gone → AreHeldFrom n gone held sources → held ≡ []
none_held n [] held sources all (none_left number) = refl
none_held n (entry ∷ gone) held sources all (one_over number first others held_others sources_others is_over rest) = none_held (number + 1) gone held_others sources_others (all_rest entry gone all) rest
none_held n (entry ∷ gone) held sources all (one_open number first others job held_others source sources_others numbered taken rest) =
    let clash : false ≡ true = sym (gone_over first (all_first first gone all)) ∙ ap is_open taken.opened in
    absurd cc

at_front : {X : Type 0} (before : List X) (x : X) (after : List X) → slice_get (before ++ x ∷ after) (length before) ≡ Some x
at_front [] x after = refl
at_front (b ∷ before) x after = at_front before x after

pub one_behind : {X : Type 0} (before : List X) (x : X) (after : List X) → before ++ x ∷ after ≡ (before ++ x ∷ []) ++ after
one_behind before x after = sym (append_assoc before (x ∷ []) after)

-- what is known of a desk that is put together again
pub record IsWhole (m : DeskState) : Type 0 where
  pub within : (q : List ℕ) (granted : ℕ) → granted_to m.desk q ≡ Some granted → past_of m.desk q + spent_by_jobs m.desk.jobs q + opened_by m.desk.jobs q ≤ granted
  pub owned : AreTenantsJobs m.desk

module _ (m : DeskState) (whole : IsWhole m) where
  -- these jobs are back, and what the others spent counts as past
  pub record IsAt (done jobs : List JobEntry) (held : List OpenJob) (s : DeskState) : Type 0 where
    pub jobs_are : s.desk.jobs ≡ done
    pub held_are : s.held ≡ held
    pub grants : (q : List ℕ) → granted_to s.desk q ≡ granted_to m.desk q
    pub past : (q : List ℕ) → past_of s.desk q ≡ past_of m.desk q + spent_by_jobs jobs q

  abbrev mid_state : List JobEntry → List JobEntry → List OpenJob → DeskState
  mid_state done jobs held = record { desk = record { grants = m.desk.grants; past = past_with m.desk.past jobs; jobs = done }; held = held }

  mid_at : (done jobs : List JobEntry) (held : List OpenJob) → IsAt done jobs held (mid_state done jobs held)
  mid_at done jobs held = record { jobs_are = refl; held_are = refl; grants = λ q. refl; past = λ q. past_with_is m.desk.past jobs q }

  known_of : (done jobs : List JobEntry) (entry : JobEntry) → m.desk.jobs ≡ done ++ entry ∷ jobs → (IsGone entry → ⊥) → (sum : ℕ) × (granted_to m.desk (string_bytes entry.tenant) ≡ Some sum)
  known_of done jobs entry are kept =
      by (whole.owned (length done) entry (ap (λ (js : List JobEntry). slice_get js (length done)) are ∙ at_front done entry jobs))
    where
      by : IsGone entry ⊎ ((sum : ℕ) × (granted_to m.desk (string_bytes entry.tenant) ≡ Some sum)) → (sum : ℕ) × (granted_to m.desk (string_bytes entry.tenant) ≡ Some sum)
      by (inl gone) = absurd (kept gone)
      by (inr there) = there

  -- a run of gone jobs
  gone_step : (done gone jobs : List JobEntry) (held : List OpenJob) (s t : DeskState) (payload : List ℕ) → IsGoneChange gone payload → IsAt done (gone ++ jobs) held s → IsAt (done ++ gone) jobs held t → MakesBytes s payload t
  gone_step done gone jobs held s t payload change at later =
      (JobsSkipped (length gone), sym change.is, (adds, change.few, later.held_are ∙ sym at.held_are))
    where
      same_past : (q : List ℕ) → past_of t.desk q ≡ past_of s.desk q
      same_past q =
          let before = at.past q in
          let behind = later.past q in
          let none = gone_spent q gone change.are in
          omega (arith, before, behind, none, sum_by-append (spent_for q) gone jobs)

      adds : AddsGone s.desk (length gone) t.desk
      adds = record {
        gone = gone;
        counted = refl;
        are = change.are;
        jobs = record { grants = λ q. later.grants q ∙ sym (at.grants q); past = same_past; jobs = later.jobs_are ∙ ap (λ (js : List JobEntry). js ++ gone) (sym at.jobs_are) };
      }

  -- a job that is over
  recalls : (done jobs : List JobEntry) (entry : JobEntry) (held : List OpenJob) (s t : DeskState) (name : List ℕ) (standing : JobStanding) → m.desk.jobs ≡ done ++ entry ∷ jobs → (IsGone entry → ⊥)
      → name ≡ string_bytes entry.tenant → entry.standing ≡ standing → is_open standing ≡ false → IsAt done (entry ∷ jobs) held s → IsAt (done ++ entry ∷ []) jobs held t → Recalls s.desk name entry.credit standing t.desk
  recalls done jobs entry held s t name standing are kept named stands over at later = record {
    entry = entry;
    tenant = sym named;
    credited = refl;
    stands = stands;
    over = ap is_open stands ∙ over;
    known = let known = known_of done jobs entry are kept in (known.0, at.grants name ∙ (ap (granted_to m.desk) named ∙ known.1));
    grants = λ q. later.grants q ∙ sym (at.grants q);
    past = λ q.
        let before = at.past q in
        let behind = later.past q in
        omega (arith, before, behind, sum_two (spent_for q) entry jobs);
    jobs = later.jobs_are ∙ ap (λ (js : List JobEntry). js ++ entry ∷ []) (sym at.jobs_are);
  }

  kept_step : (done jobs : List JobEntry) (entry : JobEntry) (held : List OpenJob) (s t : DeskState) (payload : List ℕ) → m.desk.jobs ≡ done ++ entry ∷ jobs → (IsGone entry → ⊥)
      → IsReportChange entry payload ⊎ IsFailureChange entry payload → IsAt done (entry ∷ jobs) held s → IsAt (done ++ entry ∷ []) jobs held t → MakesBytes s payload t
  kept_step done jobs entry held s t payload are kept (inl change) at later = (
    ReportKept change.tenant entry.credit change.report,
    sym change.is,
    (
      change.report,
      record { same = refl; spent = change.spent; returned = change.returned },
      record {
        recalls = recalls done jobs entry held s t change.tenant.items (Reported change.report) are kept change.same change.standing refl at later;
        narrow = change.credit;
        held = later.held_are ∙ sym at.held_are;
      },
    ),
  )
  kept_step done jobs entry held s t payload are kept (inr change) at later = (
    FailureKept change.tenant entry.credit change.code,
    sym change.is,
    record {
      recalls = recalls done jobs entry held s t change.tenant.items (Failed change.code) are kept change.same change.standing refl at later;
      narrow = change.credit;
      held = later.held_are ∙ sym at.held_are;
    },
  )

  -- an open job
  balance_there : (done jobs : List JobEntry) (entry : JobEntry) (held : List OpenJob) (s : DeskState) (name : List ℕ) → m.desk.jobs ≡ done ++ entry ∷ jobs → name ≡ string_bytes entry.tenant
      → entry.standing ≡ Open → IsAt done (entry ∷ jobs) held s → (balance : ℕ) × HasBalance s.desk name balance × (entry.credit ≤ balance)
  unfolding account_at
  balance_there done jobs entry held s name are named opened at = by known.0 (at.grants name ∙ (ap (granted_to m.desk) named ∙ known.1)) (ap (granted_to m.desk) named ∙ known.1)
    where
      not_gone : IsGone entry → ⊥
      not_gone gone = let clash : true ≡ false = sym (ap is_open opened) ∙ gone_over entry gone in cc

      known : (sum : ℕ) × (granted_to m.desk (string_bytes entry.tenant) ≡ Some sum)
      known = known_of done jobs entry are not_gone

      by : (granted : ℕ) → granted_to s.desk name ≡ Some granted → granted_to m.desk name ≡ Some granted → (balance : ℕ) × HasBalance s.desk name balance × (entry.credit ≤ balance)
      by granted here there =
          let opens = opened_by s.desk.jobs name in
          let spends = past_of s.desk name + spent_by_jobs s.desk.jobs name in
          let account : Account = record { granted = granted; balance = granted - opens - spends; opened = opens; spent = spends } in
          let is : account_in s.desk.jobs (past_of s.desk name) name (granted_to s.desk name) ≡ Ok account = ap (account_in s.desk.jobs (past_of s.desk name) name) here in
          let all = whole.within name granted there in
          let past = at.past name in
          let own : opened_for name entry ≡ entry.credit = ap (λ (n : List ℕ). opened_for n entry) named ∙ opened_own entry opened in
          let jobs_spent = ap (λ (js : List JobEntry). spent_by_jobs js name) are in
          let jobs_opened = ap (λ (js : List JobEntry). opened_by js name) are in
          let done_spent = ap (λ (js : List JobEntry). spent_by_jobs js name) at.jobs_are in
          let done_opened = ap (λ (js : List JobEntry). opened_by js name) at.jobs_are in (
            granted - opens - spends,
            record { account = account; is = is; same = refl },
            omega (
              arith,
              all,
              past,
              own,
              jobs_spent,
              jobs_opened,
              done_spent,
              done_opened,
              sum_by-append (spent_for name) done (entry ∷ jobs),
              sum_by-append (opened_for name) done (entry ∷ jobs),
              sum_two (spent_for name) entry jobs,
              sum_two (opened_for name) entry jobs,
            ),
          )

  taken_step : (done jobs : List JobEntry) (entry : JobEntry) (job : OpenJob) (held : List OpenJob) (s t : DeskState) (source : List ℕ) → m.desk.jobs ≡ done ++ entry ∷ jobs → job.number ≡ length done + 1
      → IsTakenBy source entry job.job → IsAt done (entry ∷ jobs) held s → IsAt (done ++ entry ∷ []) jobs (held ++ job ∷ []) t → MakesBytes s source t
  taken_step done jobs entry job held s t source are numbered taken at later = (
    Submitted taken.is.tenant_bytes taken.is.program_list entry.credit taken.is.buffer_bytes,
    sym taken.is.is,
    (
      record {
        entry = entry;
        tenant = sym taken.is.tenant;
        credited = refl;
        opened = taken.opened;
        balance = balance.0;
        had = balance.1;
        enough = balance.2;
        jobs = record { grants = λ q. later.grants q ∙ sym (at.grants q); past = same_past; jobs = later.jobs_are ∙ ap (λ (js : List JobEntry). js ++ entry ∷ []) (sym at.jobs_are) };
      },
      (
        job,
        subst (λ (p : List ProgramBytes × List ℕ). IsAdmittedFrom p.0 entry.credit p.1 job.job) (λ k. (sym taken.is.programs_are k, sym taken.is.buffer_is k)) taken.admitted,
        omega (arith, numbered, ap length later.jobs_are, length-append done (entry ∷ [])),
        later.held_are ∙ ap (λ (h : List OpenJob). h ++ job ∷ []) (sym at.held_are),
      ),
    ),
  )
    where
      balance : (balance : ℕ) × HasBalance s.desk taken.is.tenant_bytes.items balance × (entry.credit ≤ balance)
      balance = balance_there done jobs entry held s taken.is.tenant_bytes.items are taken.is.tenant taken.opened at

      same_past : (q : List ℕ) → past_of t.desk q ≡ past_of s.desk q
      same_past q =
          let before = at.past q in
          let behind = later.past q in
          let none = spent_open q entry taken.opened in
          omega (arith, before, behind, none, sum_two (spent_for q) entry jobs)

  -- all jobs
  pub jobs_lead : (done jobs : List JobEntry) (held_done held : List OpenJob) (sources : List (Vec ℕ Global)) (payloads : List (List ℕ)) (number : ℕ) (s : DeskState) → AreJobChanges jobs sources payloads
      → AreHeldFrom number jobs held sources → number ≡ length done + 1 → m.desk.jobs ≡ done ++ jobs → m.held ≡ held_done ++ held → IsAt done jobs held_done s → ReplaysChanges MakesBytes s payloads m
  jobs_lead done jobs held_done held sources payloads number s (last_run gone payload change) are numbered is_jobs is_held at =
      let none = none_held number gone held [] change.are are in
      let last : IsAt (done ++ gone) [] held_done m = record {
        jobs_are = is_jobs;
        held_are = is_held ∙ (ap (λ (h : List OpenJob). held_done ++ h) none ∙ append-nil held_done);
        grants = λ q. refl;
        past = λ q. omega arith;
      } in
      (m, gone_step done gone [] held_done s m payload change (subst (λ (js : List JobEntry). IsAt done js held_done s) (sym (append-nil gone)) at) last, refl)
  jobs_lead done jobs held_done held sources payloads number s (one_run gone others rest_sources payload rest_payloads change rest) are numbered is_jobs is_held at =
      let mid = mid_state (done ++ gone) others held_done in
      let mid_is = mid_at (done ++ gone) others held_done in (
        mid,
        gone_step done gone others held_done s mid payload change at mid_is,
        jobs_lead (done ++ gone) others held_done held rest_sources rest_payloads (number + length gone) mid rest (held_after number gone others held rest_sources change.are are)
            (omega (arith, numbered, length-append done gone)) (is_jobs ∙ sym (append_assoc done gone others)) is_held mid_is,
      )
  jobs_lead done jobs held_done held sources payloads number s (one_kept entry others rest_sources payload rest_payloads kept change rest) (one_over n first js held_others sources_others is_over held_rest) numbered is_jobs is_held at =
      let mid = mid_state (done ++ entry ∷ []) others held_done in
      let mid_is = mid_at (done ++ entry ∷ []) others held_done in (
        mid,
        kept_step done others entry held_done s mid payload is_jobs kept change at mid_is,
        jobs_lead (done ++ entry ∷ []) others held_done held_others rest_sources rest_payloads (n + 1) mid rest held_rest
            (omega (arith, numbered, length-append done (entry ∷ []))) (is_jobs ∙ one_behind done entry others) is_held mid_is,
      )
  jobs_lead done jobs held_done held sources payloads number s (one_kept entry others rest_sources payload rest_payloads kept change rest) (one_open n first js job held_others source sources_others is_number taken held_rest) numbered is_jobs is_held at =
      absurd (by change)
    where
      by : IsReportChange entry payload ⊎ IsFailureChange entry payload → ⊥
      by (inl c) = let clash : true ≡ false = sym (ap is_open taken.opened) ∙ ap is_open c.standing in cc
      by (inr c) = let clash : true ≡ false = sym (ap is_open taken.opened) ∙ ap is_open c.standing in cc
  jobs_lead done jobs held_done held sources payloads number s (one_taken entry others source rest_sources rest_payloads opened rest) (one_over n first js held_others sources_others is_over held_rest) numbered is_jobs is_held at =
      let clash : true ≡ false = sym (ap is_open opened) ∙ is_over in
      absurd cc
  jobs_lead done jobs held_done held sources payloads number s (one_taken entry others source rest_sources rest_payloads opened rest) (one_open n first js job held_others taken_source sources_others is_number taken held_rest) numbered is_jobs is_held at =
      let mid = mid_state (done ++ entry ∷ []) others (held_done ++ job ∷ []) in
      let mid_is = mid_at (done ++ entry ∷ []) others (held_done ++ job ∷ []) in (
        mid,
        taken_step done others entry job held_done s mid source.items is_jobs (is_number ∙ numbered) taken at mid_is,
        jobs_lead (done ++ entry ∷ []) others (held_done ++ job ∷ []) held_others rest_sources rest_payloads (n + 1) mid rest held_rest
            (omega (arith, numbered, length-append done (entry ∷ []))) (is_jobs ∙ one_behind done entry others) (is_held ∙ one_behind held_done job held_others) mid_is,
      )
