-- After every history of changes, what is held is the desk's open jobs, each as a change took it.
use Rattle.std.proofs.Common.{◌≡◌, ◌≢◌, ◌⊎◌, ◌+◌, ◌-◌, ◌≤◌, ◌<◌, ℕ, zero, suc, Bool, true, false, List, [], ◌∷◌, ◌++◌, append_assoc, length, slice_get, slice_set, nat_eq, if◌then◌else◌, Option, Some, None, Result, Ok, Err, refl, sym, ap, subst, ◌∙◌, inl, inr, arith}
use Rattle.std.specs.Prelude.{All}
use Rattle.std.proofs.lemmas.Bool.{cases_eq}
use Rattle.std.proofs.lemmas.Bool.Decides.{nat_tests}
use Rattle.std.proofs.lemmas.List.{append-nil, length-append}
use Rattle.std.proofs.lemmas.Option.{slice_get_within}
use Rattle.accounts.specs.Forgetting.{ForgetsJobs, IsGone, IsJobOver}
use Rattle.accounts.specs.Jobs.{is_open, settled}
use Rattle.accounts.specs.Ledgers.{Ledger, Finishes, Takes}
use Rattle.accounts.specs.Restoring.{AddsGone}
use Rattle.accounts.specs.declared.jobs.JobEntry.{JobEntry}
use Rattle.accounts.specs.declared.jobs.JobStanding.{JobStanding}
use Rattle.accounts.specs.declared.jobs.JobStanding.TheVariants.{Open, Reported, Failed}
use Rattle.accounts.proofs.Forgets.{each_left}
use Rattle.accounts.proofs.Listed.{get_set_apart, get_set_here, get_within, same_some}
use Rattle.credit_book.specs.declared.book.Report.{Report}
use Rattle.job_core.specs.Admitted.{AdmittedJob}
use Rattle.recovery.specs.Histories.{IsAfter, ReplaysChanges}
use Rattle.desk_journal.specs.DeskChanges.{change_bytes}
use Rattle.desk_journal.specs.DeskSteps.{DeskState, EndsJob, IsNewDesk, IsWithout, Makes, MakesBytes, PutsBack}
use Rattle.desk_journal.specs.OpenJobs.{ComesFromChange, open_job_at}
use Rattle.desk_journal.specs.declared.change.DeskChange.{DeskChange}
use Rattle.desk_journal.specs.declared.change.DeskChange.TheVariants.{Granted, Submitted, Finished, Failed as Fails, Forgotten, AccountOpened, JobsSkipped, ReportKept, FailureKept}
use Rattle.desk_journal.specs.declared.journaled_desk.OpenJob.{OpenJob}

-- ---- jobs by their numbers

abbrev tested : Bool → OpenJob → ℕ → List OpenJob → Option AdmittedJob
tested b o number held = if◌then◌else◌ {A = Option AdmittedJob} b (Some o.job) (open_job_at number held)

at_here : (o : OpenJob) (held : List OpenJob) (number : ℕ) → o.number ≡ number → open_job_at number (o ∷ held) ≡ Some o.job
at_here o held number same =
    let is : nat_eq o.number number ≡ true = grind (arith, nat_tests) in
    ap (λ (b : Bool). tested b o number held) is

at_apart : (o : OpenJob) (held : List OpenJob) (number : ℕ) → o.number ≢ number → open_job_at number (o ∷ held) ≡ open_job_at number held
at_apart o held number apart =
    let is : nat_eq o.number number ≡ false = grind (arith, nat_tests) in
    ap (λ (b : Bool). tested b o number held) is

-- each number is that of one job
abbrev pub AreApart : List OpenJob → Type 0
AreApart [] = Unit {0}
AreApart (o ∷ held) = (open_job_at o.number held ≡ None) × AreApart held

-- ---- a job behind the others

at_pushed : (held : List OpenJob) (last : OpenJob) (number : ℕ) (job : AdmittedJob) → open_job_at number held ≡ Some job → open_job_at number (held ++ last ∷ []) ≡ Some job
at_pushed [] last number job at = cc
at_pushed (o ∷ held) last number job at =
    elim (cases_eq o.number number) [
      | inl same ↦ at_here o (held ++ last ∷ []) number same ∙ sym (at_here o held number same) ∙ at
      | inr apart ↦ at_apart o (held ++ last ∷ []) number apart ∙ at_pushed held last number job (sym (at_apart o held number apart) ∙ at)
    ]

pub pushed_at : (held : List OpenJob) (last : OpenJob) (number : ℕ) → last.number ≢ number → open_job_at number (held ++ last ∷ []) ≡ open_job_at number held
pushed_at [] last number other = at_apart last [] number other
pushed_at (o ∷ held) last number other =
    elim (cases_eq o.number number) [
      | inl same ↦ at_here o (held ++ last ∷ []) number same ∙ sym (at_here o held number same)
      | inr apart ↦ at_apart o (held ++ last ∷ []) number apart ∙ pushed_at held last number other ∙ sym (at_apart o held number apart)
    ]

apart_pushed : (held : List OpenJob) (last : OpenJob) → AreApart held → open_job_at last.number held ≡ None → AreApart (held ++ last ∷ [])
apart_pushed [] last each none = (refl, tt)
apart_pushed (o ∷ held) last each none =
    elim (cases_eq o.number last.number) [
      | inl same ↦ let clash : Some o.job ≡ None = sym (at_here o held last.number same) ∙ none in absurd cc
      | inr apart ↦ (
        pushed_at held last o.number (λ same. apart (sym same)) ∙ each.0,
        apart_pushed held last each.1 (sym (at_apart o held last.number apart) ∙ none),
      )
    ]

-- ---- a job among the others

gone_at : (before : List OpenJob) (gone : OpenJob) (after : List OpenJob) → (job : AdmittedJob) × (open_job_at gone.number (before ++ gone ∷ after) ≡ Some job)
gone_at [] gone after = (gone.job, at_here gone after gone.number refl)
gone_at (o ∷ before) gone after =
    elim (cases_eq o.number gone.number) [
      | inl same ↦ (o.job, at_here o (before ++ gone ∷ after) gone.number same)
      | inr apart ↦ let later = gone_at before gone after in (later.0, at_apart o (before ++ gone ∷ after) gone.number apart ∙ later.1)
    ]

pub none_ahead : (before : List OpenJob) (o : OpenJob) (after : List OpenJob) → AreApart (before ++ o ∷ after) → open_job_at o.number before ≡ None
none_ahead [] o after each = refl
none_ahead (x ∷ before) o after each =
    elim (cases_eq x.number o.number) [
      | inl same ↦
          let there = gone_at before o after in
          let clash : Some there.0 ≡ None = sym there.1 ∙ ap (λ (n : ℕ). open_job_at n (before ++ o ∷ after)) (sym same) ∙ each.0 in
          cc
      | inr apart ↦ at_apart x before o.number apart ∙ none_ahead before o after each.1
    ]

pub at_middle : (before : List OpenJob) (o : OpenJob) (after : List OpenJob) → open_job_at o.number before ≡ None → open_job_at o.number (before ++ o ∷ after) ≡ Some o.job
at_middle [] o after none = at_here o after o.number refl
at_middle (x ∷ before) o after none =
    elim (cases_eq x.number o.number) [
      | inl same ↦ let clash : Some x.job ≡ None = sym (at_here x before o.number same) ∙ none in cc
      | inr apart ↦ at_apart x (before ++ o ∷ after) o.number apart ∙ at_middle before o after (sym (at_apart x before o.number apart) ∙ none)
    ]

-- ---- without one of them

left_at : (before : List OpenJob) (gone : OpenJob) (after : List OpenJob) (number : ℕ) → gone.number ≢ number → open_job_at number (before ++ gone ∷ after) ≡ open_job_at number (before ++ after)
left_at [] gone after number other = at_apart gone after number other
left_at (o ∷ before) gone after number other =
    elim (cases_eq o.number number) [
      | inl same ↦ at_here o (before ++ gone ∷ after) number same ∙ sym (at_here o (before ++ after) number same)
      | inr apart ↦ at_apart o (before ++ gone ∷ after) number apart ∙ left_at before gone after number other ∙ sym (at_apart o (before ++ after) number apart)
    ]

none_left : (before : List OpenJob) (gone : OpenJob) (after : List OpenJob) → AreApart (before ++ gone ∷ after) → open_job_at gone.number (before ++ after) ≡ None
none_left [] gone after each = each.0
none_left (o ∷ before) gone after each =
    elim (cases_eq o.number gone.number) [
      | inl same ↦
          let there = gone_at before gone after in
          let clash : Some there.0 ≡ None = sym there.1 ∙ ap (λ (n : ℕ). open_job_at n (before ++ gone ∷ after)) (sym same) ∙ each.0 in
          absurd cc
      | inr apart ↦ at_apart o (before ++ after) gone.number apart ∙ none_left before gone after each.1
    ]

apart_left : (before : List OpenJob) (gone : OpenJob) (after : List OpenJob) → AreApart (before ++ gone ∷ after) → AreApart (before ++ after)
apart_left [] gone after each = each.1
apart_left (o ∷ before) gone after each =
    elim (cases_eq gone.number o.number) [
      | inl same ↦
          let there = gone_at before gone after in
          let clash : Some there.0 ≡ None = sym there.1 ∙ ap (λ (n : ℕ). open_job_at n (before ++ gone ∷ after)) same ∙ each.0 in
          absurd cc
      | inr other ↦ (sym (left_at before gone after o.number other) ∙ each.0, apart_left before gone after each.1)
    ]

-- ---- a desk, and what is held

-- the open job of a desk that is held under a number
pub record IsHeldOpen (changes : List (List ℕ)) (desk : Ledger) (number : ℕ) (job : AdmittedJob) : Type 0 where
  pub counted : 1 ≤ number
  pub entry : JobEntry
  pub at : slice_get desk.jobs (number - 1) ≡ Some entry
  pub opened : entry.standing ≡ Open
  pub credited : entry.credit ≡ job.credit
  pub from : ComesFromChange changes number job

-- After these changes each job that is held is an open one of the desk, and each open one is held.
pub record AreHeldOpen (changes : List (List ℕ)) (s : DeskState) : Type 0 where
  pub apart : AreApart s.held
  pub opened : (number : ℕ) (job : AdmittedJob) → open_job_at number s.held ≡ Some job → IsHeldOpen changes s.desk number job
  pub held : (i : ℕ) (entry : JobEntry) → slice_get s.desk.jobs i ≡ Some entry → entry.standing ≡ Open → (job : AdmittedJob) × (open_job_at (i + 1) s.held ≡ Some job)

comes_still : (changes : List (List ℕ)) (more : List ℕ) (number : ℕ) (job : AdmittedJob) → ComesFromChange changes number job → ComesFromChange (changes ++ more ∷ []) number job
comes_still changes more number job c = record {
  ahead = c.ahead;
  tenant = c.tenant;
  programs = c.programs;
  credit = c.credit;
  buffer = c.buffer;
  behind = c.behind ++ more ∷ [];
  are = ap (λ l. l ++ more ∷ []) c.are ∙ append_assoc c.ahead (change_bytes (Submitted c.tenant c.programs c.credit c.buffer) ∷ c.behind) (more ∷ []);
  admitted = c.admitted;
  before = c.before;
  led = c.led;
  next = c.next;
}

-- the desk is another, with the same entry at that place
open_still : (changes : List (List ℕ)) (more : List ℕ) (old new : Ledger) (number : ℕ) (job : AdmittedJob) → (h : IsHeldOpen changes old number job) → slice_get new.jobs (number - 1) ≡ Some h.entry
    → IsHeldOpen (changes ++ more ∷ []) new number job
open_still changes more old new number job h at = record {
  counted = h.counted;
  entry = h.entry;
  at = at;
  opened = h.opened;
  credited = h.credited;
  from = comes_still changes more number job h.from;
}

pub settled_over : (credit : ℕ) (outcome : Result Report ℕ) → settled credit outcome ≡ Open → ⊥
settled_over credit (Ok report) is = by (nat_eq (report.spent + report.returned) credit) is
  where
    by : (b : Bool) → (if b then Reported report else Failed 82) ≡ Open → ⊥
    by true same = absurd cc
    by false same = absurd cc
settled_over credit (Err code) is = absurd cc

pub get_pushed : {X : Type 0} (xs : List X) (x : X) (i : ℕ) (y : X) → slice_get (xs ++ x ∷ []) i ≡ Some y → (slice_get xs i ≡ Some y) ⊎ ((i ≡ length xs) × (x ≡ y))
get_pushed [] x zero y at = inr (refl, same_some x y at)
get_pushed [] x (suc i) y at = cc
get_pushed (z ∷ xs) x zero y at = inl at
get_pushed (z ∷ xs) x (suc i) y at = later (get_pushed xs x i y at)
  where
    later : (slice_get xs i ≡ Some y) ⊎ ((i ≡ length xs) × (x ≡ y)) → (slice_get xs i ≡ Some y) ⊎ ((suc i ≡ suc (length xs)) × (x ≡ y))
    later (inl was) = inl was
    later (inr t) = inr (ap suc t.0, t.1)

get_before : {X : Type 0} (xs : List X) (x : X) (i : ℕ) (y : X) → slice_get xs i ≡ Some y → slice_get (xs ++ x ∷ []) i ≡ Some y
get_before [] x i y at = cc
get_before (z ∷ xs) x zero y at = at
get_before (z ∷ xs) x (suc i) y at = get_before xs x i y at

get_append : {X : Type 0} (xs ys : List X) (i : ℕ) (y : X) → slice_get xs i ≡ Some y → slice_get (xs ++ ys) i ≡ Some y
get_append [] ys i y at = cc
get_append (x ∷ xs) ys zero y at = at
get_append (x ∷ xs) ys (suc i) y at = get_append xs ys i y at

pub append_get : {X : Type 0} (xs ys : List X) (i : ℕ) (y : X) → slice_get (xs ++ ys) i ≡ Some y → (slice_get xs i ≡ Some y) ⊎ ((j : ℕ) × (slice_get ys j ≡ Some y))
append_get [] ys i y at = inr (i, at)
append_get (x ∷ xs) ys zero y at = inl at
append_get (x ∷ xs) ys (suc i) y at = append_get xs ys i y at

-- where each is gone, so is the one at a place
gone_there : (gone : List JobEntry) (i : ℕ) (entry : JobEntry) → All IsGone gone → slice_get gone i ≡ Some entry → IsGone entry
gone_there [] i entry all at = cc
gone_there (x ∷ gone) zero entry all at = subst IsGone (same_some x entry at) (all zero x (omega arith))
gone_there (x ∷ gone) (suc i) entry all at = gone_there gone i entry (λ k d lt. all (suc k) d (omega (arith, lt))) at

-- none of them is open
abbrev pub AreClosed : List JobEntry → Type 0
AreClosed jobs = (i : ℕ) (entry : JobEntry) → slice_get jobs i ≡ Some entry → entry.standing ≡ Open → ⊥

pub gone_closed : (gone : List JobEntry) → All IsGone gone → AreClosed gone
gone_closed gone are i entry at opened = let clash : Failed 76 ≡ Open = sym (gone_there gone i entry are at).standing ∙ opened in absurd cc

pub over_closed : (over : JobEntry) → IsJobOver over → AreClosed (over ∷ [])
over_closed over is_over zero entry at opened =
    let is : is_open over.standing ≡ is_open Open = ap (λ (e : JobEntry). is_open e.standing) (same_some over entry at) ∙ ap is_open opened in
    let clash : true ≡ false = sym is ∙ is_over in
    absurd cc
over_closed over is_over (suc i) entry at opened = absurd cc

pub length_set : {X : Type 0} (xs : List X) (i : ℕ) (x : X) → length (slice_set xs i x) ≡ length xs
length_set [] i x = refl
length_set (y ∷ xs) zero x = refl
length_set (y ∷ xs) (suc i) x = let later = length_set xs i x in omega (arith, later)

get_last : {X : Type 0} (xs : List X) (x : X) (i : ℕ) → i ≡ length xs → slice_get (xs ++ x ∷ []) i ≡ Some x
get_last [] x zero is = refl
get_last [] x (suc i) is = absurd (omega (arith, is))
get_last (z ∷ xs) x zero is = absurd (omega (arith, is))
get_last (z ∷ xs) x (suc i) is = get_last xs x i (omega (arith, is))

module _ (changes : List (List ℕ)) (more : List ℕ) (s t : DeskState) (was : AreHeldOpen changes s) where
  -- the same jobs are held, and the desk's open ones are as they were
  same_held : t.held ≡ s.held → ((i : ℕ) (entry : JobEntry) → slice_get s.desk.jobs i ≡ Some entry → entry.standing ≡ Open → slice_get t.desk.jobs i ≡ Some entry)
      → ((i : ℕ) (entry : JobEntry) → slice_get t.desk.jobs i ≡ Some entry → entry.standing ≡ Open → slice_get s.desk.jobs i ≡ Some entry) → AreHeldOpen (changes ++ more ∷ []) t
  same_held same forth back = record {
    apart = subst AreApart (sym same) was.apart;
    opened = λ number job at. let h = was.opened number job (ap (open_job_at number) (sym same) ∙ at) in open_still changes more s.desk t.desk number job h (forth (number - 1) h.entry h.at h.opened);
    held = λ i entry at opened. let h = was.held i entry (back i entry at opened) opened in (h.0, ap (open_job_at (i + 1)) same ∙ h.1);
  }

  same_jobs : t.held ≡ s.held → t.desk.jobs ≡ s.desk.jobs → AreHeldOpen (changes ++ more ∷ []) t
  same_jobs same jobs = same_held same (λ i entry at opened. ap (λ js. slice_get js i) jobs ∙ at) (λ i entry at opened. ap (λ js. slice_get js i) (sym jobs) ∙ at)

  -- jobs come behind that aren't open
  behind_open : (others : List JobEntry) → t.held ≡ s.held → t.desk.jobs ≡ s.desk.jobs ++ others → AreClosed others → AreHeldOpen (changes ++ more ∷ []) t
  behind_open others same jobs none =
      same_held same (λ i entry at opened. ap (λ js. slice_get js i) jobs ∙ get_append s.desk.jobs others i entry at) back
    where
      back : (i : ℕ) (entry : JobEntry) → slice_get t.desk.jobs i ≡ Some entry → entry.standing ≡ Open → slice_get s.desk.jobs i ≡ Some entry
      back i entry at opened = by (append_get s.desk.jobs others i entry (ap (λ js. slice_get js i) (sym jobs) ∙ at))
        where
          by : (slice_get s.desk.jobs i ≡ Some entry) ⊎ ((j : ℕ) × (slice_get others j ≡ Some entry)) → slice_get s.desk.jobs i ≡ Some entry
          by (inl there) = there
          by (inr there) = absurd (none there.0 entry there.1 opened)

  gone_open : (count : ℕ) → t.held ≡ s.held → AddsGone s.desk count t.desk → AreHeldOpen (changes ++ more ∷ []) t
  gone_open count same adds = behind_open adds.gone same adds.jobs.jobs (gone_closed adds.gone adds.are)

  back_open : (name : List ℕ) (credit : ℕ) (standing : JobStanding) → PutsBack name credit standing s t → AreHeldOpen (changes ++ more ∷ []) t
  back_open name credit standing back = behind_open (back.recalls.entry ∷ []) back.held back.recalls.jobs (over_closed back.recalls.entry back.recalls.over)

  -- some are forgotten, which aren't open
  forgotten_open : (ahead : ℕ) → t.held ≡ s.held → ForgetsJobs s.desk.jobs ahead t.desk.jobs → AreHeldOpen (changes ++ more ∷ []) t
  forgotten_open ahead same f = same_held same (λ i entry at opened. f.same i entry at (inr (ap is_open opened))) back
    where
      back : (i : ℕ) (entry : JobEntry) → slice_get t.desk.jobs i ≡ Some entry → entry.standing ≡ Open → slice_get s.desk.jobs i ≡ Some entry
      back i entry at opened = by old.0 old.1 (each_left s.desk.jobs ahead t.desk.jobs f i old.0 entry old.1 at)
        where
          old : (x : JobEntry) × (slice_get s.desk.jobs i ≡ Some x)
          old = let lt = slice_get_within t.desk.jobs i entry at in let long = f.count in get_within s.desk.jobs i (omega (arith, lt, long))

          by : (x : JobEntry) → slice_get s.desk.jobs i ≡ Some x → (x ≡ entry) ⊎ (IsJobOver x × IsGone entry) → slice_get s.desk.jobs i ≡ Some entry
          by x there (inl is) = there ∙ ap Some is
          by x there (inr gone) = let clash : Failed 76 ≡ Open = sym gone.1.standing ∙ opened in cc

  -- a job is taken, and held
  taken_open : (name : List ℕ) (credit : ℕ) (last : OpenJob) → Takes s.desk name credit t.desk → credit ≡ last.job.credit → last.number ≡ length t.desk.jobs → t.held ≡ s.held ++ last ∷ []
      → ComesFromChange (changes ++ more ∷ []) last.number last.job → AreHeldOpen (changes ++ more ∷ []) t
  taken_open name credit last takes same_credit numbered is from = record {
    apart = subst AreApart (sym is) (apart_pushed s.held last was.apart fresh);
    opened = λ number job at. opened number job (ap (open_job_at number) (sym is) ∙ at) (cases_eq last.number number);
    held = λ i entry at opens. held i entry opens (get_pushed s.desk.jobs takes.entry i entry (ap (λ js. slice_get js i) (sym takes.jobs.jobs) ∙ at));
  }
    where
      place : last.number ≡ length s.desk.jobs + 1
      place = let long = ap length takes.jobs.jobs in omega (arith, numbered, long, length-append s.desk.jobs (takes.entry ∷ []))

      fresh : open_job_at last.number s.held ≡ None
      fresh = by (open_job_at last.number s.held) refl
        where
          by : (o : Option AdmittedJob) → open_job_at last.number s.held ≡ o → open_job_at last.number s.held ≡ None
          by None none = none
          by (Some job) at =
              let h = was.opened last.number job at in
              let lt = slice_get_within s.desk.jobs (last.number - 1) h.entry h.at in
              absurd (omega (arith, lt, place))

      there : slice_get t.desk.jobs (last.number - 1) ≡ Some takes.entry
      there = ap (λ js. slice_get js (last.number - 1)) takes.jobs.jobs ∙ get_last s.desk.jobs takes.entry (last.number - 1) (omega (arith, place))

      opened : (number : ℕ) (job : AdmittedJob) → open_job_at number (s.held ++ last ∷ []) ≡ Some job → (last.number ≡ number) ⊎ (last.number ≡ number → ⊥) → IsHeldOpen (changes ++ more ∷ []) t.desk number job
      opened number job at (inl same) =
          let is_job : last.job ≡ job = same_some last.job job (sym (at_middle s.held last [] fresh) ∙ ap (λ (n : ℕ). open_job_at n (s.held ++ last ∷ [])) same ∙ at) in
          subst (λ (p : ℕ × AdmittedJob). IsHeldOpen (changes ++ more ∷ []) t.desk p.0 p.1) (λ k. (same k, is_job k)) (record {
            counted = omega (arith, place);
            entry = takes.entry;
            at = there;
            opened = takes.opened;
            credited = takes.credited ∙ same_credit;
            from = from;
          })
      opened number job at (inr other) =
          let h = was.opened number job (sym (pushed_at s.held last number other) ∙ at) in
          open_still changes more s.desk t.desk number job h (ap (λ js. slice_get js (number - 1)) takes.jobs.jobs ∙ get_before s.desk.jobs takes.entry (number - 1) h.entry h.at)

      held : (i : ℕ) (entry : JobEntry) → entry.standing ≡ Open → (slice_get s.desk.jobs i ≡ Some entry) ⊎ ((i ≡ length s.desk.jobs) × (takes.entry ≡ entry))
          → (job : AdmittedJob) × (open_job_at (i + 1) t.held ≡ Some job)
      held i entry opens (inl at) =
          let h = was.held i entry at opens in
          (h.0, ap (open_job_at (i + 1)) is ∙ at_pushed s.held last (i + 1) h.0 h.1)
      held i entry opens (inr new) =
          let at = new.0 in
          let same : last.number ≡ i + 1 = omega (arith, place, at) in
          (last.job, ap (open_job_at (i + 1)) is ∙ ap (λ (n : ℕ). open_job_at n (s.held ++ last ∷ [])) (sym same) ∙ at_middle s.held last [] fresh)

  -- an open job ends, and isn't held any more
  ended_open : (number : ℕ) (outcome : Result Report ℕ) → EndsJob number outcome s t → AreHeldOpen (changes ++ more ∷ []) t
  ended_open number outcome ends = record {
    apart = subst AreApart (sym without.now) (apart_left without.before without.gone without.after apart);
    opened = λ n job at. opened n job at (cases_eq number n);
    held = λ i entry at opens. held i entry at opens (cases_eq i (number - 1));
  }
    where
      over : Finishes s.desk number outcome t.desk
      over = ends.0

      without : IsWithout number s.held t.held
      without = ends.1

      apart : AreApart (without.before ++ without.gone ∷ without.after)
      apart = subst AreApart without.was was.apart

      changed : JobEntry
      changed = record over.entry { standing = settled over.entry.credit outcome }

      none : open_job_at number t.held ≡ None
      none = ap (open_job_at number) without.now ∙ ap (λ (n : ℕ). open_job_at n (without.before ++ without.after)) (sym without.numbered) ∙ none_left without.before without.gone without.after apart

      others : (n : ℕ) → number ≢ n → open_job_at n s.held ≡ open_job_at n t.held
      others n other =
          ap (open_job_at n) without.was ∙ left_at without.before without.gone without.after n (λ same. other (sym without.numbered ∙ same)) ∙ ap (open_job_at n) (sym without.now)

      counted : 1 ≤ number
      counted =
          let there = gone_at without.before without.gone without.after in
          let h = was.opened number there.0 (ap (open_job_at number) without.was ∙ ap (λ (n : ℕ). open_job_at n (without.before ++ without.gone ∷ without.after)) (sym without.numbered) ∙ there.1) in
          h.counted

      opened : (n : ℕ) (job : AdmittedJob) → open_job_at n t.held ≡ Some job → (number ≡ n) ⊎ (number ≡ n → ⊥) → IsHeldOpen (changes ++ more ∷ []) t.desk n job
      opened n job at (inl same) = let clash : None ≡ Some job = sym none ∙ ap (λ (m : ℕ). open_job_at m t.held) same ∙ at in absurd cc
      opened n job at (inr other) =
          let h = was.opened n job (others n other ∙ at) in
          let some = h.counted in
          open_still changes more s.desk t.desk n job h
          (ap (λ js. slice_get js (n - 1)) over.jobs.jobs ∙ get_set_apart s.desk.jobs (number - 1) (n - 1) changed (λ same. other (omega (arith, same, some, counted))) ∙ h.at)

      held : (i : ℕ) (entry : JobEntry) → slice_get t.desk.jobs i ≡ Some entry → entry.standing ≡ Open → (i ≡ number - 1) ⊎ (i ≡ number - 1 → ⊥) → (job : AdmittedJob) × (open_job_at (i + 1) t.held ≡ Some job)
      held i entry at opens (inl same) =
          let lt : number - 1 < length (slice_set s.desk.jobs (number - 1) changed) =
          slice_get_within (slice_set s.desk.jobs (number - 1) changed) (number - 1) entry (ap (λ js. slice_get js (number - 1)) (sym over.jobs.jobs) ∙ ap (λ (k : ℕ). slice_get t.desk.jobs k) (sym same) ∙ at) in
          let is : entry ≡ changed = same_some entry changed (sym at ∙ ap (λ (k : ℕ). slice_get t.desk.jobs k) same ∙ ap (λ js. slice_get js (number - 1)) over.jobs.jobs ∙ set_here lt) in
          absurd (settled_over over.entry.credit outcome (sym (ap (λ (e : JobEntry). e.standing) is) ∙ opens))
        where
          set_here : number - 1 < length (slice_set s.desk.jobs (number - 1) changed) → slice_get (slice_set s.desk.jobs (number - 1) changed) (number - 1) ≡ Some changed
          set_here lt = get_set_here s.desk.jobs (number - 1) changed (let long = length_set s.desk.jobs (number - 1) changed in omega (arith, lt, long))
      held i entry at opens (inr other) =
          let there : slice_get s.desk.jobs i ≡ Some entry = sym (get_set_apart s.desk.jobs (number - 1) i changed other) ∙ ap (λ js. slice_get js i) (sym over.jobs.jobs) ∙ at in
          let h = was.held i entry there opens in
          (h.0, sym (others (i + 1) (λ same. other (omega (arith, same)))) ∙ h.1)

  -- a change
  changed_open : IsAfter IsNewDesk MakesBytes changes s → (change : DeskChange) → change_bytes change ≡ more → Makes change s t → AreHeldOpen (changes ++ more ∷ []) t
  changed_open led (Granted tenant amount) is made = same_jobs made.1 made.0.jobs
  changed_open led (Submitted tenant programs credit buffer) is made =
      taken_open tenant.items credit made.1.0 made.0 (sym made.1.1.same_credit) made.1.2 made.1.3 (record {
        ahead = changes;
        tenant = tenant;
        programs = programs;
        credit = credit;
        buffer = buffer;
        behind = [];
        are = ap (λ (b : List ℕ). changes ++ b ∷ []) (sym is);
        admitted = made.1.1;
        before = s;
        led = led;
        next = made.1.2 ∙ ap length made.0.jobs.jobs ∙ length-append s.desk.jobs (made.0.entry ∷ []);
      })
  changed_open led (Finished number report) is made = ended_open number (Ok made.0) made.2
  changed_open led (Fails number code) is made = ended_open number (Err code) made
  changed_open led (Forgotten ahead) is made = forgotten_open ahead made.1 made.0.jobs
  changed_open led (AccountOpened tenant granted spent) is made = same_jobs made.1 (made.0.jobs ∙ sym made.0.early)
  changed_open led (JobsSkipped count) is made = gone_open count made.2 made.0
  changed_open led (ReportKept tenant credit report) is made = back_open tenant.items credit (Reported made.0) made.2
  changed_open led (FailureKept tenant credit code) is made = back_open tenant.items credit (Failed code) made

-- ---- a history

-- changes behind others
led_on : (changes more : List (List ℕ)) (first s t : DeskState) → ReplaysChanges MakesBytes first changes s → ReplaysChanges MakesBytes s more t → ReplaysChanges MakesBytes first (changes ++ more) t
led_on [] more first s t is rest = subst (λ (x : DeskState). ReplaysChanges MakesBytes x more t) is rest
led_on (change ∷ changes) more first s t one rest = (one.0, one.1, led_on changes more one.0 s t one.2 rest)

held_on : (changes more : List (List ℕ)) (s t : DeskState) → IsAfter IsNewDesk MakesBytes changes s → AreHeldOpen changes s → ReplaysChanges MakesBytes s more t → AreHeldOpen (changes ++ more) t
held_on changes [] s t led was is = subst (λ (p : List (List ℕ) × DeskState). AreHeldOpen p.0 p.1) (λ k. (sym (append-nil changes) k, sym is k)) was
held_on changes (change ∷ more) s t led was one =
    let next = changed_open changes change s one.0 was led one.1.0 one.1.1 one.1.2 in
    let led_next : IsAfter IsNewDesk MakesBytes (changes ++ change ∷ []) one.0 = (led.0, led.1, led_on changes (change ∷ []) led.0 s one.0 led.2 (one.0, one.1, refl)) in
    subst (λ l. AreHeldOpen l t) (append_assoc changes (change ∷ []) more) (held_on (changes ++ change ∷ []) more one.0 t led_next next one.2)

new_held : (first : DeskState) → IsNewDesk first → AreHeldOpen [] first
new_held first new = record {
  apart = subst AreApart (sym new.1) tt;
  opened = λ number job at. let clash : None ≡ Some job = ap (open_job_at number) (sym new.1) ∙ at in absurd cc;
  held = λ i entry at opens. let clash : None ≡ Some entry = ap (λ (d : Ledger). slice_get d.jobs i) (sym new.0) ∙ at in absurd cc;
}

pub held_open : (changes : List (List ℕ)) (s : DeskState) → IsAfter IsNewDesk MakesBytes changes s → AreHeldOpen changes s
held_open changes s led = held_on [] changes led.0 s (led.0, led.1, refl) (new_held led.0 led.1) led.2
