-- Records that are added one behind the other.
use Rattle.std.proofs.Common.{◌≡◌, ◌⊎◌, ◌+◌, ◌-◌, ◌≤◌, ◌<◌, ◌^◌, ℕ, zero, suc, Vec, Global, true, false, List, [], ◌∷◌, ◌++◌, append_assoc, drop, length, slice_get, nat_eq, if◌then◌else◌, Bool, Option, Some, None, Result, Ok, Err, refl, sym, ap, subst, ◌∙◌, inl, inr, arith}
use Rattle.std.specs.Prelude.{All, IfOk, string_bytes}
use Rattle.std.specs.Int.{w32, to_le_bytes}
use Rattle.std.proofs.lemmas.Bool.Decides.{nat_tests}
use Rattle.std.proofs.lemmas.List.{append-nil, nil_from_length}
use Rattle.accounts.specs.Forgetting.{IsGone}
use Rattle.accounts.specs.Jobs.{is_open, job_at}
use Rattle.accounts.specs.Restoring.{AreKeptAccounts, IsNextKept}
use Rattle.accounts.specs.declared.kept_accounts.KeptAccount.{KeptAccount}
use Rattle.accounts.specs.declared.jobs.JobEntry.{JobEntry}
use Rattle.accounts.specs.declared.jobs.JobStanding.TheVariants.{Reported, Failed}
use Rattle.accounts.proofs.Listed.{get_within, same_some}
use Rattle.journal.specs.Records.{AllFitRecords, FitsRecord, journal_of, record_of}
use Rattle.journal.proofs.JoinedRecords.{fits_both, journal_both}
use Rattle.compaction.specs.Snapshots.{IsSnapshot}
use Rattle.credit_book.specs.declared.book.Report.{Report}
use Rattle.desk_journal.specs.AlikeDesks.{AreDesksAlike}
use Rattle.desk_journal.specs.Changes.{report_bytes}
use Rattle.desk_journal.specs.DeskChanges.{change_bytes}
use Rattle.desk_journal.specs.DeskSteps.{DeskState, IsNewDesk, MakesBytes}
use Rattle.desk_journal.specs.Encodings.{counted_bytes}
use Rattle.desk_journal.specs.HeldJobs.{AreHeldFrom, IsTakenBy, none_left, one_over, one_open}
use Rattle.desk_journal.specs.SnapshotChanges.{AreAccountChanges, AreJobChanges, HasLargeAccount, HasLargeJob, IsAccountChange, IsEntryChange, IsFailureChange, IsGoneChange, IsReportChange, last_run, one_kept, one_run, one_taken}
use Rattle.desk_journal.specs.declared.change.DeskChange.TheVariants.{FailureKept, JobsSkipped}
use Rattle.desk_journal.specs.declared.journaled_desk.OpenJob.{OpenJob}
use Rattle.desk_journal.proofs.SnapshotAccounts.{restores}
use Rattle.desk_journal.proofs.SnapshotLead.{held_after}

-- records were added so far; with those of the rest behind them they are those of the whole
pub record Added (is_whole is_rest : List (List ℕ) → Type 0) (before now : List ℕ) : Type 0 where
  pub done : List (List ℕ)
  pub fit : AllFitRecords done
  pub bytes : now ≡ before ++ journal_of done
  pub onward : (more : List (List ℕ)) → is_rest more → is_whole (done ++ more)

pub none_added : (P : List (List ℕ) → Type 0) (before : List ℕ) → Added P P before before
none_added P before = record { done = []; fit = tt; bytes = sym (append-nil before); onward = λ more is. is }

journal_pushed : (payloads : List (List ℕ)) (payload : List ℕ) → journal_of (payloads ++ payload ∷ []) ≡ journal_of payloads ++ record_of payload
journal_pushed [] payload = append-nil (record_of payload)
journal_pushed (first ∷ payloads) payload = ap (λ (l : List ℕ). record_of first ++ l) (journal_pushed payloads payload) ∙ sym (append_assoc (record_of first) (journal_of payloads) (record_of payload))

fits_pushed : (payloads : List (List ℕ)) (payload : List ℕ) → AllFitRecords payloads → FitsRecord payload → AllFitRecords (payloads ++ payload ∷ [])
fits_pushed [] payload all fits = (fits, tt)
fits_pushed (first ∷ payloads) payload all fits = (all.0, fits_pushed payloads payload all.1 fits)

pub one_added : (P Q R : List (List ℕ) → Type 0) (before mid now payload : List ℕ) → Added P Q before mid → FitsRecord payload → now ≡ mid ++ record_of payload → ((more : List (List ℕ)) → R more → Q (payload ∷ more)) → Added P R before now
one_added P Q R before mid now payload a fits is onward = record {
  done = a.done ++ payload ∷ [];
  fit = fits_pushed a.done payload a.fit fits;
  bytes = is ∙ (ap (λ (l : List ℕ). l ++ record_of payload) a.bytes ∙ (append_assoc before (journal_of a.done) (record_of payload) ∙ ap (λ (l : List ℕ). before ++ l) (sym (journal_pushed a.done payload))));
  onward = λ more rest. subst P (sym (append_assoc a.done (payload ∷ []) more)) (a.onward (payload ∷ more) (onward more rest));
}

pub all_added : (P Q : List (List ℕ) → Type 0) (before now : List ℕ) → Added P Q before now → Q [] → (payloads : List (List ℕ)) × P payloads × AllFitRecords payloads × (now ≡ before ++ journal_of payloads)
all_added P Q before now a last = (a.done, subst P (append-nil a.done) (a.onward [] last), a.fit, a.bytes)

-- ---- jobs, from a number on

job_slot : (jobs : List JobEntry) (number : ℕ) → 1 ≤ number → job_at jobs number ≡ slice_get jobs (number - 1)
job_slot jobs number counted =
    let apart : nat_eq number 0 ≡ false = grind (arith, nat_tests) in
    ap (λ (b : Bool). if◌then◌else◌ {A = Option JobEntry} b None (slice_get jobs (number - 1))) apart

from_slot : (jobs : List JobEntry) (i : ℕ) (entry : JobEntry) → slice_get jobs i ≡ Some entry → drop i jobs ≡ entry ∷ drop (suc i) jobs
from_slot [] i entry at = cc
from_slot (x ∷ jobs) zero entry at = ap (λ (e : JobEntry). e ∷ jobs) (same_some x entry at)
from_slot (x ∷ jobs) (suc i) entry at = from_slot jobs i entry at

-- the jobs from a number on, of which the first is this one
pub from_job : (jobs : List JobEntry) (number : ℕ) (entry : JobEntry) → 1 ≤ number → job_at jobs number ≡ Some entry → drop (number - 1) jobs ≡ entry ∷ drop number jobs
from_job jobs number entry counted at =
    let here = from_slot jobs (number - 1) entry (sym (job_slot jobs number counted) ∙ at) in
    let next : suc (number - 1) ≡ number = omega (arith, counted) in
    here ∙ ap (λ (k : ℕ). entry ∷ drop k jobs) next

-- a run of gone jobs ahead of the others
record IsRun (jobs : List JobEntry) (i count : ℕ) : Type 0 where
  gone : List JobEntry
  are : All IsGone gone
  counted : length gone ≡ count
  is : drop i jobs ≡ gone ++ drop (i + count) jobs

gone_run : (jobs : List JobEntry) (i count : ℕ) → i + count ≤ length jobs → ((k : ℕ) (entry : JobEntry) → i ≤ k → k < i + count → slice_get jobs k ≡ Some entry → IsGone entry) → IsRun jobs i count
gone_run jobs i zero within each = record { gone = []; are = λ k d lt. absurd (omega (arith, lt)); counted = refl; is = ap (λ (k : ℕ). drop k jobs) (omega arith) }
gone_run jobs i (suc count) within each =
    let first = get_within jobs i (omega (arith, within)) in
    let rest = gone_run jobs (suc i) count (omega (arith, within)) (λ k entry le lt at. each k entry (omega (arith, le)) (omega (arith, lt)) at) in
    let is_gone = each i first.0 (omega arith) (omega arith) first.1 in
    record {
      gone = first.0 ∷ rest.gone;
      are = all_gone first.0 rest.gone is_gone rest.are;
      counted = ap suc rest.counted;
      is = from_slot jobs i first.0 first.1 ∙ ap (λ (l : List JobEntry). first.0 ∷ l) (rest.is ∙ ap (λ (k : ℕ). rest.gone ++ drop k jobs) (omega arith));
    }
  where
    all_gone : (x : JobEntry) (gone : List JobEntry) → IsGone x → All IsGone gone → All IsGone (x ∷ gone)
    all_gone x gone is all zero d lt = is
    all_gone x gone is all (suc k) d lt = all k d (omega (arith, lt))

-- the jobs up to the next one that isn't gone
next_run : (jobs : List JobEntry) (number next : ℕ) → 1 ≤ number → number ≤ length jobs → IsNextKept jobs number next → IsRun jobs (number - 1) (next - number)
next_run jobs number next counted within kept =
    gone_run jobs (number - 1) (next - number) (most kept.first)
    (λ k entry le lt at. kept.between (k + 1) entry (omega (arith, le, counted)) (omega (arith, lt, counted)) (job_slot jobs (k + 1) (omega arith) ∙ ap (slice_get jobs) (omega arith) ∙ at))
  where
    most : (next ≡ number) ⊎ (next ≤ length jobs + 1) → number - 1 + (next - number) ≤ length jobs
    most (inl same) = omega (arith, same, within, counted)
    most (inr le) = omega (arith, le, within, counted)

-- ---- what the loop over the jobs keeps

-- The records of the jobs ahead of a number are added, and the sources of the open jobs from there on
-- are left.
pub record AreJobsAdded (jobs : List JobEntry) (sources : List (Vec ℕ Global)) (number : ℕ) (rest : List (Vec ℕ Global)) (before now : List ℕ) : Type 0 where
  pub counted : 1 ≤ number
  pub within : number ≤ length jobs + 1
  pub held : List OpenJob
  pub are_held : AreHeldFrom number (drop (number - 1) jobs) held rest
  pub added : Added (AreJobChanges jobs sources) (AreJobChanges (drop (number - 1) jobs) rest) before now

pub no_job_added : (jobs : List JobEntry) (held : List OpenJob) (sources : List (Vec ℕ Global)) (before : List ℕ) → AreHeldFrom 1 jobs held sources → AreJobsAdded jobs sources 1 sources before before
no_job_added jobs held sources before are = record { counted = omega arith; within = omega arith; held = held; are_held = are; added = none_added (AreJobChanges jobs sources) before }

module _ (jobs : List JobEntry) (sources : List (Vec ℕ Global)) (number : ℕ) (rest : List (Vec ℕ Global)) (before mid : List ℕ) (was : AreJobsAdded jobs sources number rest before mid) where
  -- a run of gone jobs
  pub run_added : (next : ℕ) (now payload : List ℕ) → number ≤ length jobs → IsNextKept jobs number next → next - number < 2 ^ 64 → FitsRecord payload → payload ≡ change_bytes (JobsSkipped (next - number)) → now ≡ mid ++ record_of payload
      → AreJobsAdded jobs sources next rest before now
  run_added next now payload there kept few fits is bytes = record {
    counted = omega (arith, was.counted, later);
    within = most kept.first;
    held = was.held;
    are_held = subst (λ (p : ℕ × ℕ). AreHeldFrom p.0 (drop p.1 jobs) was.held rest) (λ k. (next_is k, place_is k))
        (held_after number run.gone (drop (number - 1 + (next - number)) jobs) was.held rest run.are (subst (λ (js : List JobEntry). AreHeldFrom number js was.held rest) run.is was.are_held));
    added = one_added (AreJobChanges jobs sources) (AreJobChanges (drop (number - 1) jobs) rest) (AreJobChanges (drop (next - 1) jobs) rest) before mid now payload was.added fits bytes onward;
  }
    where
      later : number ≤ next
      later = kept.later

      run : IsRun jobs (number - 1) (next - number)
      run = next_run jobs number next was.counted there kept

      most : (next ≡ number) ⊎ (next ≤ length jobs + 1) → next ≤ length jobs + 1
      most (inl same) = omega (arith, same, there)
      most (inr le) = le

      place_is : number - 1 + (next - number) ≡ next - 1
      place_is = let counted = was.counted in omega (arith, later, counted)

      next_is : number + length run.gone ≡ next
      next_is = let long = run.counted in omega (arith, long, later)

      change : IsGoneChange run.gone payload
      change = record {
        are = run.are;
        few = let long = run.counted in omega (arith, long, few);
        is = is ∙ ap (λ (n : ℕ). change_bytes (JobsSkipped n)) (sym run.counted);
      }

      onward : (more : List (List ℕ)) → AreJobChanges (drop (next - 1) jobs) rest more → AreJobChanges (drop (number - 1) jobs) rest (payload ∷ more)
      onward more are =
          subst (λ (js : List JobEntry). AreJobChanges js rest (payload ∷ more)) (sym run.is)
          (one_run run.gone (drop (number - 1 + (next - number)) jobs) rest payload more change (subst (λ (i : ℕ). AreJobChanges (drop i jobs) rest more) (sym place_is) are))

  -- the job of the number is over
  pub kept_added : (entry : JobEntry) (now payload : List ℕ) → job_at jobs number ≡ Some entry → (IsGone entry → ⊥) → is_open entry.standing ≡ false → IsReportChange entry payload ⊎ IsFailureChange entry payload
      → number ≤ length jobs → FitsRecord payload → now ≡ mid ++ record_of payload → AreJobsAdded jobs sources (number + 1) rest before now
  kept_added entry now payload at kept over change there fits bytes = record {
    counted = omega arith;
    within = omega (arith, there);
    held = was.held;
    are_held = subst (λ (i : ℕ). AreHeldFrom (number + 1) (drop i jobs) was.held rest) (omega arith) (behind was.held rest (subst (λ (js : List JobEntry). AreHeldFrom number js was.held rest) here was.are_held));
    added = one_added (AreJobChanges jobs sources) (AreJobChanges (drop (number - 1) jobs) rest) (AreJobChanges (drop (number + 1 - 1) jobs) rest) before mid now payload was.added fits bytes onward;
  }
    where
      here : drop (number - 1) jobs ≡ entry ∷ drop number jobs
      here = from_job jobs number entry was.counted at

      behind : (held : List OpenJob) (left : List (Vec ℕ Global)) → AreHeldFrom number (entry ∷ drop number jobs) held left → AreHeldFrom (number + 1) (drop number jobs) held left
      behind held left (one_over n first js held_others sources_others is_over others) = others
      behind held left (one_open n first js job held_others source sources_others is_number taken others) = let clash : true ≡ false = sym (ap is_open taken.opened) ∙ over in cc

      onward : (more : List (List ℕ)) → AreJobChanges (drop (number + 1 - 1) jobs) rest more → AreJobChanges (drop (number - 1) jobs) rest (payload ∷ more)
      onward more are =
          subst (λ (js : List JobEntry). AreJobChanges js rest (payload ∷ more)) (sym here)
          (one_kept entry (drop number jobs) rest payload more kept change (subst (λ (i : ℕ). AreJobChanges (drop i jobs) rest more) (omega arith) are))

  -- the job of the number is open
  pub record IsFirstSource (entry : JobEntry) : Type 0 where
    pub source : Vec ℕ Global
    pub others : List (Vec ℕ Global)
    pub is : rest ≡ source ∷ others
    pub job : OpenJob
    pub held : List OpenJob
    pub taken : IsTakenBy source.items entry job.job
    pub are_held : AreHeldFrom (number + 1) (drop number jobs) held others

  pub first_source : (entry : JobEntry) → job_at jobs number ≡ Some entry → is_open entry.standing ≡ true → IsFirstSource entry
  first_source entry at opened = by was.held rest (subst (λ (js : List JobEntry). AreHeldFrom number js was.held rest) (from_job jobs number entry was.counted at) was.are_held) refl
    where
      by : (held : List OpenJob) (left : List (Vec ℕ Global)) → AreHeldFrom number (entry ∷ drop number jobs) held left → rest ≡ left → IsFirstSource entry
      by held left (one_over n first js held_others sources_others is_over others) same = let clash : true ≡ false = sym opened ∙ is_over in absurd cc
      by held left (one_open n first js job held_others source sources_others is_number taken others) same =
          record { source = source; others = sources_others; is = same; job = job; held = held_others; taken = taken; are_held = others }

  pub taken_added : (entry : JobEntry) (first : IsFirstSource entry) (now : List ℕ) (left : List (Vec ℕ Global)) → job_at jobs number ≡ Some entry → left ≡ first.others → number ≤ length jobs
      → FitsRecord first.source.items → now ≡ mid ++ record_of first.source.items → AreJobsAdded jobs sources (number + 1) left before now
  taken_added entry first now left at same there fits bytes = subst (λ (l : List (Vec ℕ Global)). AreJobsAdded jobs sources (number + 1) l before now) (sym same) (record {
    counted = omega arith;
    within = omega (arith, there);
    held = first.held;
    are_held = subst (λ (i : ℕ). AreHeldFrom (number + 1) (drop i jobs) first.held first.others) (omega arith) first.are_held;
    added = one_added (AreJobChanges jobs sources) (AreJobChanges (drop (number - 1) jobs) rest) (AreJobChanges (drop (number + 1 - 1) jobs) first.others) before mid now first.source.items was.added fits bytes onward;
  })
    where
      onward : (more : List (List ℕ)) → AreJobChanges (drop (number + 1 - 1) jobs) first.others more → AreJobChanges (drop (number - 1) jobs) rest (first.source.items ∷ more)
      onward more are =
          subst (λ (p : List JobEntry × List (Vec ℕ Global)). AreJobChanges p.0 p.1 (first.source.items ∷ more)) (λ k. (sym (from_job jobs number entry was.counted at) k, sym first.is k))
          (one_taken entry (drop number jobs) first.source first.others more first.taken.opened (subst (λ (i : ℕ). AreJobChanges (drop i jobs) first.others more) (omega arith) are))

  -- all jobs, and the last record
  pub all_jobs_added : (now payload : List ℕ) → length jobs < number → FitsRecord payload → payload ≡ change_bytes (JobsSkipped 0) → now ≡ mid ++ record_of payload
      → (payloads : List (List ℕ)) × AreJobChanges jobs sources payloads × AllFitRecords payloads × (now ≡ before ++ journal_of payloads)
  all_jobs_added now payload past fits is bytes =
      all_added (AreJobChanges jobs sources) (λ more. more ≡ []) before now
      (one_added (AreJobChanges jobs sources) (AreJobChanges (drop (number - 1) jobs) rest) (λ more. more ≡ []) before mid now payload was.added fits bytes onward) refl
    where
      none : drop (number - 1) jobs ≡ []
      none = nothing (number - 1) jobs (omega (arith, past))
        where
          nothing : (i : ℕ) (js : List JobEntry) → length js ≤ i → drop i js ≡ []
          nothing zero [] le = refl
          nothing zero (x ∷ js) le = absurd (omega (arith, le))
          nothing (suc i) [] le = refl
          nothing (suc i) (x ∷ js) le = nothing i js (omega (arith, le))

      no_source : (held : List OpenJob) (left : List (Vec ℕ Global)) → AreHeldFrom number [] held left → left ≡ []
      no_source held left (none_left n) = refl

      onward : (more : List (List ℕ)) → more ≡ [] → AreJobChanges (drop (number - 1) jobs) rest (payload ∷ more)
      onward more empty =
          let left = no_source was.held rest (subst (λ (js : List JobEntry). AreHeldFrom number js was.held rest) none was.are_held) in
          subst (λ (p : List JobEntry × List (Vec ℕ Global) × List (List ℕ)). AreJobChanges p.0 p.1 (payload ∷ p.2)) (λ k. (sym none k, sym left k, sym empty k))
          (last_run [] payload (record { are = λ k d lt. absurd (omega (arith, lt)); few = omega arith; is = is }))

-- the next job is this one, and not gone
pub not_gone : (jobs : List JobEntry) (number next : ℕ) (entry : JobEntry) → IsNextKept jobs number next → next ≤ number → job_at jobs number ≡ Some entry → IsGone entry → ⊥
not_gone jobs number next entry kept le at =
    let later = kept.later in
    let same : number ≡ next = omega (arith, le, later) in
    kept.here entry (subst (λ (n : ℕ). job_at jobs n ≡ Some entry) same at)

first_two : {X : Type 0} (x y : X) (xs ys : List X) → x ∷ xs ≡ y ∷ ys → (x ≡ y) × (xs ≡ ys)
first_two x y xs ys same = (cc, ap (drop 1) same)

-- an open job's source is the first one that is left
pub source_added : (jobs : List JobEntry) (sources : List (Vec ℕ Global)) (number : ℕ) (rest : List (Vec ℕ Global)) (before mid : List ℕ) (was : AreJobsAdded jobs sources number rest before mid) (entry : JobEntry) (now seen : List ℕ)
    (x : Vec ℕ Global) (xs : List (Vec ℕ Global)) → job_at jobs number ≡ Some entry → is_open entry.standing ≡ true → number ≤ length jobs → rest ≡ x ∷ xs → seen ≡ x.items → FitsRecord seen → now ≡ mid ++ record_of seen
    → AreJobsAdded jobs sources (number + 1) xs before now
source_added jobs sources number rest before mid was entry now seen x xs at opened there is same fits bytes =
    let first = first_source jobs sources number rest before mid was entry at opened in
    let both = first_two x first.source xs first.others (sym is ∙ first.is) in
    let bytes_are : seen ≡ first.source.items = same ∙ ap (λ (v : Vec ℕ Global). v.items) both.0 in
    taken_added jobs sources number rest before mid was entry first now xs at both.1 there (subst FitsRecord bytes_are fits) (bytes ∙ ap (λ (l : List ℕ). mid ++ record_of l) bytes_are)

-- ---- what each function leaves

pub if_ok : {X E : Type 0} {P Q : X → Type 0} (r : Result X E) → ((x : X) → P x → Q x) → IfOk r P → IfOk r Q
if_ok (Ok x) f p = f x p
if_ok (Err e) f p = tt

pub account_added : (accounts rest others : List KeptAccount) (first : KeptAccount) (before mid now payload seen : List ℕ) → Added (AreAccountChanges accounts) (AreAccountChanges rest) before mid → rest ≡ first ∷ others
    → IsAccountChange first payload → seen ≡ payload → FitsRecord seen → now ≡ mid ++ record_of seen → Added (AreAccountChanges accounts) (AreAccountChanges others) before now
account_added accounts rest others first before mid now payload seen added is change same fits bytes =
    one_added (AreAccountChanges accounts) (AreAccountChanges rest) (AreAccountChanges others) before mid now seen added fits bytes
    (λ more left. subst (λ (xs : List KeptAccount). AreAccountChanges xs (seen ∷ more)) (sym is) (subst (λ (p : List ℕ). IsAccountChange first p) (sym same) change, left))

pub large_account : (rest others : List KeptAccount) (first : KeptAccount) (payload seen : List ℕ) → rest ≡ first ∷ others → IsAccountChange first payload → seen ≡ payload → (FitsRecord seen → ⊥) → HasLargeAccount rest
large_account rest others first payload seen is change same large = subst HasLargeAccount (sym is) (inl (payload, change, λ fits. large (subst FitsRecord (sym same) fits)))

pub large_behind : (accounts rest others : List KeptAccount) (first : KeptAccount) → rest ≡ first ∷ others → (HasLargeAccount rest → HasLargeAccount accounts) → HasLargeAccount others → HasLargeAccount accounts
large_behind accounts rest others first is large l = large (subst HasLargeAccount (sym is) (inr l))

pub accounts_added : (accounts rest : List KeptAccount) (before now : List ℕ) → Added (AreAccountChanges accounts) (AreAccountChanges rest) before now → length rest ≡ 0
    → (payloads : List (List ℕ)) × AreAccountChanges accounts payloads × AllFitRecords payloads × (now ≡ before ++ journal_of payloads)
accounts_added accounts rest before now added none =
    all_added (AreAccountChanges accounts) (AreAccountChanges rest) before now added (subst (λ (xs : List KeptAccount). AreAccountChanges xs []) (sym (nil_from_length rest none)) tt)

pub report_change_so : (entry : JobEntry) (tenant : Vec ℕ Global) (report kept : Report) (credit : ℕ) (seen payload : List ℕ) → tenant.items ≡ string_bytes entry.tenant → entry.standing ≡ Reported kept → report ≡ kept → credit ≡ entry.credit → credit < 2 ^ 32
    → report.spent < 2 ^ 32 → report.returned < 2 ^ 32 → seen ≡ tenant.items → payload ≡ 9 ∷ (counted_bytes seen ++ (to_le_bytes w32 credit ++ report_bytes report)) → IsReportChange entry payload
report_change_so entry tenant report kept credit seen payload named stands same_report same_credit narrow spent returned same is = record {
  tenant = tenant;
  report = report;
  same = named;
  standing = stands ∙ ap Reported (sym same_report);
  credit = subst (λ (n : ℕ). n < 2 ^ 32) same_credit narrow;
  spent = spent;
  returned = returned;
  is = is ∙ (ap (λ (b : List ℕ). 9 ∷ (counted_bytes b ++ (to_le_bytes w32 credit ++ report_bytes report))) same ∙ ap (λ (n : ℕ). 9 ∷ (counted_bytes tenant.items ++ (to_le_bytes w32 n ++ report_bytes report))) same_credit);
}

pub failure_change_so : (entry : JobEntry) (tenant : Vec ℕ Global) (code credit : ℕ) (payload : List ℕ) → tenant.items ≡ string_bytes entry.tenant → entry.standing ≡ Failed code → credit ≡ entry.credit → credit < 2 ^ 32
    → payload ≡ change_bytes (FailureKept tenant credit code) → IsFailureChange entry payload
failure_change_so entry tenant code credit payload named stands same_credit narrow is = record {
  tenant = tenant;
  code = code;
  same = named;
  standing = stands;
  credit = subst (λ (n : ℕ). n < 2 ^ 32) same_credit narrow;
  is = is ∙ ap (λ (n : ℕ). change_bytes (FailureKept tenant n code)) same_credit;
}

pub no_job : (jobs : List JobEntry) (number : ℕ) → 1 ≤ number → number ≤ length jobs → job_at jobs number ≡ None → ⊥
no_job jobs number counted within none =
    let there = get_within jobs (number - 1) (omega (arith, counted, within)) in
    let clash : Some there.0 ≡ None = sym there.1 ∙ (sym (job_slot jobs number counted) ∙ none) in
    cc

-- a job's change that is too long
pub large_job : (jobs : List JobEntry) (number : ℕ) (entry : JobEntry) (payload : List ℕ) → 1 ≤ number → job_at jobs number ≡ Some entry → IsEntryChange entry payload → (FitsRecord payload → ⊥) → HasLargeJob jobs
large_job jobs number entry payload counted at change large = (number - 1, entry, payload, sym (job_slot jobs number counted) ∙ at, change, large)

pub large_source : (jobs : List JobEntry) (sources : List (Vec ℕ Global)) (number : ℕ) (rest : List (Vec ℕ Global)) (before mid : List ℕ) (was : AreJobsAdded jobs sources number rest before mid) (entry : JobEntry) (seen : List ℕ)
    (x : Vec ℕ Global) (xs : List (Vec ℕ Global)) → job_at jobs number ≡ Some entry → is_open entry.standing ≡ true → rest ≡ x ∷ xs → seen ≡ x.items → (FitsRecord seen → ⊥) → HasLargeJob jobs
large_source jobs sources number rest before mid was entry seen x xs at opened is same large =
    let first = first_source jobs sources number rest before mid was entry at opened in
    let both = first_two x first.source xs first.others (sym is ∙ first.is) in
    let bytes_are : seen ≡ first.source.items = same ∙ ap (λ (v : Vec ℕ Global). v.items) both.0 in
    large_job jobs number entry first.source.items was.counted at (inr (inr (first.job.job, first.taken))) (λ fits. large (subst FitsRecord (sym bytes_are) fits))

pub over_change : (entry : JobEntry) (payload : List ℕ) → IsReportChange entry payload ⊎ IsFailureChange entry payload → IsEntryChange entry payload
over_change entry payload (inl change) = inl change
over_change entry payload (inr change) = inr (inl change)

pub number_is : (jobs : List JobEntry) (sources : List (Vec ℕ Global)) (m n : ℕ) (rest : List (Vec ℕ Global)) (before now : List ℕ) → m ≡ n → AreJobsAdded jobs sources m rest before now → AreJobsAdded jobs sources n rest before now
number_is jobs sources m n rest before now same are = subst (λ (k : ℕ). AreJobsAdded jobs sources k rest before now) same are

-- ---- both together

pub snapshot_made : (m : DeskState) (accounts : List KeptAccount) (sources : List (Vec ℕ Global)) (opening payloads : List (List ℕ)) (before mid now : List ℕ) → AreKeptAccounts m.desk accounts → AreHeldFrom 1 m.desk.jobs m.held sources
    → AreAccountChanges accounts opening → AllFitRecords opening → mid ≡ before ++ journal_of opening → AreJobChanges m.desk.jobs sources payloads → AllFitRecords payloads → now ≡ mid ++ journal_of payloads
    → (bytes : List ℕ) × (now ≡ before ++ bytes) × IsSnapshot IsNewDesk MakesBytes AreDesksAlike m bytes
snapshot_made m accounts sources opening payloads before mid now kept held changes fit is_mid jobs fits is_now = (
  journal_of (opening ++ payloads),
  is_now ∙ (ap (λ (l : List ℕ). l ++ journal_of payloads) is_mid ∙ (append_assoc before (journal_of opening) (journal_of payloads) ∙ ap (λ (l : List ℕ). before ++ l) (sym (journal_both opening payloads)))),
  record {
    payloads = opening ++ payloads;
    fits = fits_both opening payloads fit fits;
    restores = restores m accounts kept sources opening payloads changes jobs held fit fits;
    are = refl;
  },
)
