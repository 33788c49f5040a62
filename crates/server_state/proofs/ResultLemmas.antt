-- What is sent for a result is that of the very job whose submit was sent its number.
use Rattle.std.proofs.Common.{◌≡◌, ◌≢◌, ◌⊎◌, ◌+◌, ◌-◌, ◌<◌, ◌≤◌, ℕ, zero, suc, Bool, true, false, List, [], ◌∷◌, ◌++◌, length, slice_get, Option, Some, None, Result, Ok, Err, refl, sym, ap, subst, ◌∙◌, inl, inr, arith}
use Rattle.std.proofs.lemmas.Bool.{cases_lt}
use Rattle.serde_json.specs.Data.{Data}
use Rattle.credit_book.specs.declared.book.Report.{Report}
use Rattle.accounts.specs.declared.keep_limits.KeepLimits.{KeepLimits}
use Rattle.accounts.specs.declared.jobs.JobEntry.{JobEntry}
use Rattle.accounts.specs.declared.jobs.JobStanding.{JobStanding}
use Rattle.accounts.specs.declared.jobs.JobStanding.TheVariants.{Open, Reported, Failed}
use Rattle.accounts.specs.Jobs.{job_at, report_of}
use Rattle.accounts.specs.Ledgers.{Ledger, report_at, report_in}
use Rattle.job_core.specs.Admitted.{AdmittedJob}
use Rattle.sessions.specs.JobKeys.{latest}
use Rattle.sessions.specs.Replies.{frame_or_refusal}
use Rattle.sessions.specs.declared.job_key.KeyedJob.{KeyedJob}
use Rattle.streams.specs.Answering.{refused, report_told}
use Rattle.server_state.specs.declared.job_id.JobId.{JobId}
use Rattle.server_state.specs.Alone.{Others, no_step, one_start, one_look, one_end, no_end, at_home, is_of, one_desk, part_of, put_if, seen_by_desk, waiting_of}
use Rattle.server_state.specs.Histories.{ServerEvent, was_asked, has_ended, Happens}
use Rattle.server_state.specs.Keyed.{frame_of_event, none_yet as none_keyed}
use Rattle.server_state.specs.Results.{AreKnown, AreKnownAtFirst, AsksForResult, ComesFromSubmit, HoldsOpenJobs, IsHeld, IsKnownAs, IsResultFrame, IsResultKnown, IsSubmit, IsSubmittedBefore, IsToldKnown, Itself, KnownJob, Over, RunsJobs, WasReported, failed, forgotten, known_at, no_more, none_yet, not_over, one_again, one_more, outcome_told, over_standing, reported, unknown, was_over}
use Rattle.server_state.specs.States.{DeskState, JobsSteps, ServerState, id_at}
use Rattle.server_state.proofs.AloneLemmas.{each_alone}
use Rattle.server_state.proofs.HistoryStands.{AreAtHome, RunsNumbers, Stood, home_before, home_last, known_is, stood_aside, stood_asked, stood_begun, stood_ended, stood_none}
use Rattle.server_state.proofs.ListEnds.{get_past, get_within, joined_again, within_get}
use Rattle.server_state.proofs.Moments.{Moments, all_moments}
use Rattle.server_state.proofs.ReplyFrames.{third, third_of_refused, third_of_result}
use Rattle.server_state.proofs.StandsFor.{AllStand, StandsFor, get_pushed, over_open}
use Rattle.server_state.proofs.StayLemmas.{sent_at}
use Rattle.server_state.proofs.StaysOver.{job_is, job_there}

-- ---- the result by the desk

module _ (ends : ℕ → AdmittedJob → Result Report ℕ → Type 0) (refuses : ℕ → Type 0) (keep : KeepLimits) where
  told_over : (outcome : Result Report ℕ) → report_told (report_of (over_standing outcome)) ≡ outcome_told outcome
  told_over (Ok report) = refl
  told_over (Err code) = refl

  by_standing : (known : List KnownJob) (number : ℕ) (held : AdmittedJob → Type 0) (job : KnownJob) (credit : ℕ) (standing : JobStanding) → known_at known number ≡ Some job
      → StandsFor ends refuses keep held (length known) number job credit standing → IsResultKnown ends refuses keep known number (report_told (report_of standing))
  by_standing known number held (Itself job) credit Open at stands = not_over job at
  by_standing known number held (Itself job) credit (Reported report) at stands = reported job report at stands
  by_standing known number held (Itself job) credit (Failed code) at (inl fails) = failed job code at fails
  by_standing known number held (Itself job) credit (Failed code) at (inr gone) =
      subst (λ (c : ℕ). IsResultKnown ends refuses keep known number (refused c)) (sym gone.0) (forgotten (Itself job) at gone.1)
  by_standing known number held (Over outcome) credit standing at (inl is) =
      subst (IsResultKnown ends refuses keep known number) (sym (ap (λ (st : JobStanding). report_told (report_of st)) is ∙ told_over outcome)) (was_over outcome at)
  by_standing known number held (Over outcome) credit standing at (inr gone) =
      subst (λ (st : JobStanding). IsResultKnown ends refuses keep known number (report_told (report_of st))) (sym gone.0) (forgotten (Over outcome) at gone.1)

  by_entry : (known : List KnownJob) (entries : List JobEntry) (held : ℕ → AdmittedJob → Type 0) (number : ℕ) → 1 ≤ number → AllStand ends refuses keep known entries held → (o : Option JobEntry)
      → slice_get entries (number - 1) ≡ o → IsResultKnown ends refuses keep known number (report_told (report_in o))
  by_entry known entries held number some stand None at =
      unknown (known_is known number some ∙ get_past known (number - 1) (past (cases_lt (number - 1) (length entries))))
    where
      past : (number - 1 < length entries) ⊎ (length entries ≤ number - 1) → length known ≤ number - 1
      past (inl lt) = let there = get_within entries (number - 1) lt in let clash : None ≡ Some there.0 = sym at ∙ there.1 in cc
      past (inr le) = let count = stand.count in omega (arith, le, count)
  by_entry known entries held number some stand (Some entry) at =
      by_standing known number (held number) job.0 entry.credit entry.standing (known_is known number some ∙ job.1)
      (subst (λ (n : ℕ). StandsFor ends refuses keep (held n) (length known) n job.0 entry.credit entry.standing) is (stand.each (number - 1) entry job.0 at job.1))
    where
      is : number - 1 + 1 ≡ number
      is = omega (arith, some)

      job : (j : KnownJob) × (slice_get known (number - 1) ≡ Some j)
      job = let lt = within_get entries (number - 1) entry at in let count = stand.count in get_within known (number - 1) (omega (arith, lt, count))

  result_told : (known : List KnownJob) (desk : Ledger) (held : ℕ → AdmittedJob → Type 0) (number : ℕ) → AllStand ends refuses keep known desk.jobs held
      → IsResultKnown ends refuses keep known number (report_told (report_at desk number))
  unfolding report_at
  result_told known desk held zero stand = unknown refl
  result_told known desk held (suc n) stand =
      subst (λ (o : Option JobEntry). IsResultKnown ends refuses keep known (suc n) (report_told (report_in o))) (sym (job_is desk.jobs (suc n) (omega arith)))
      (by_entry known desk.jobs held (suc n) (omega arith) stand (slice_get desk.jobs (suc n - 1)) refl)

-- ---- at a server of one desk

-- of a fresh desk no job is known
pub known_fresh : {R : Type 0} (at : R → ℕ → Option AdmittedJob) (d : DeskState) (w : List (JobId × AdmittedJob)) (r : R) → d.ledger.jobs ≡ [] → w ≡ [] → AreKnownAtFirst at d w r []
known_fresh at d w r none no_waiting = record {
  count = ap length (sym none);
  each = λ i entry job there known. absurd (nothing_at i job known);
  waits = λ i job there. absurd (nothing_at i job (ap (λ l. slice_get l i) (sym no_waiting) ∙ there));
}
  where
    nothing_at : {X : Type 0} (i : ℕ) (x : X) → slice_get {X = X} [] i ≡ Some x → ⊥
    nothing_at i x is = cc

module _ {R : Type 0} (m : JobsSteps R) (at : R → ℕ → Option AdmittedJob) (ends : ℕ → AdmittedJob → Result Report ℕ → Type 0) (refuses : ℕ → Type 0) (runs : RunsNumbers m at ends refuses)
    (keep : KeepLimits) (begun : DeskState) (waiting : List (JobId × AdmittedJob)) (q : R) (last : begun.keys ≡ latest begun.keys) (first : List KnownJob) (are : AreKnownAtFirst at begun waiting q first) where
  stands_first : (held : ℕ → AdmittedJob → Type 0) (number count : ℕ) (entry : JobEntry) (job : KnownJob) → IsKnownAs held number entry job → StandsFor ends refuses keep (held number) count number job entry.credit entry.standing
  stands_first held number count entry (Itself job) t = subst (StandsFor ends refuses keep (held number) count number (Itself job) entry.credit) (sym t.0) (t.2, t.1)
  stands_first held number count entry (Over outcome) t = inl t

  -- where the ends of jobs are those of the desk
  abbrev Stands : List ServerEvent → DeskState → List (JobId × AdmittedJob) → R → Type 0
  Stands events d w r = AreAtHome events → Stood m at ends refuses runs keep begun.keys first events d w r

  at_first : Stands [] begun waiting q
  at_first home = record {
    keyed = record { all = begun.keys; are = none_keyed; same = last };
    known = first;
    are = none_yet;
    stand = record { count = sym are.count; each = λ i entry job there also. stands_first (IsHeld at waiting q) (i + 1) (length first) entry job (are.each i entry job there also) };
    waits = are.waits;
  }

  stands_behind : (events : List ServerEvent) (s : ServerState R) → Happens m (one_desk keep begun waiting q) events s → (d : DeskState) × (s.desks ≡ d ∷ []) × Stands events d s.waiting s.jobs × Moments m keep Stands events d
  stands_behind events s happens =
      all_moments m keep Stands
      (λ events d w connection access query frame started r x y was to replies all. stood_asked m at ends refuses runs keep begun.keys first events d w connection access query frame started r x y (was (home_before events _ all)) to replies)
      (λ events d w r connection access query frame started to was is aside all. stood_aside m at ends refuses runs keep begun.keys first events d w r connection access query frame started to (was (home_before events _ all)) is aside)
      (λ events d w id outcome r x y was takes here noted all. stood_ended m at ends refuses runs keep begun.keys first events d w id outcome r x y (was (home_before events _ all)) takes here noted)
      (λ events d w id outcome r y was takes apart all. absurd (apart (home_last events (has_ended id outcome) all)))
      (λ events d job others started r y was starts all. stood_begun m at ends refuses runs keep begun.keys first events d job others started r y (was all) starts)
      (λ events d w r y was none all. stood_none m at ends refuses runs keep begun.keys first events d w r y (was all) none)
      begun waiting q at_first events s happens

  pub told_at : (before after : List ServerEvent) (e : ServerEvent) (number : ℕ) (s : ServerState R) → Happens m (one_desk keep begun waiting q) (before ++ e ∷ after) s → AreAtHome (before ++ e ∷ after) → AsksForResult number e
      → IsToldKnown ends refuses keep begun.keys first before number e
  told_at before after e number s happens home asks =
      let t = (stands_behind (before ++ e ∷ after) s happens).3 before after e refl in
      let stood = t.holds (home_before before (e ∷ after) home) in
      record {
        known = stood.known;
        are = stood.are;
        told = report_told (report_at t.old.ledger number);
        sent = (sent_at m keep e t.old t.runner t.new t.left number asks t.comes).0;
        is_result = result_told ends refuses keep stood.known t.old.ledger (IsHeld at t.waiting t.runner) number stood.stand;
      }

  -- the desk behind a history
  pub stood_behind : (events : List ServerEvent) (s : ServerState R) → Happens m (one_desk keep begun waiting q) events s → AreAtHome events
      → (d : DeskState) × (s.desks ≡ d ∷ []) × Stood m at ends refuses runs keep begun.keys first events d s.waiting s.jobs
  stood_behind events s happens home = let t = stands_behind events s happens in (t.0, t.1, t.2 home)

-- ---- open jobs are held

same_known : (a b : KnownJob) → Some a ≡ Some b → a ≡ b
same_known a b same = cc

open_held : {R : Type 0} (at : R → ℕ → Option AdmittedJob) (ends : ℕ → AdmittedJob → Result Report ℕ → Type 0) (refuses : ℕ → Type 0) (keep : KeepLimits) (d : DeskState) (w : List (JobId × AdmittedJob)) (r : R) (known : List KnownJob)
    → AllStand ends refuses keep known d.ledger.jobs (IsHeld at w r) → HoldsOpenJobs at d w r known
open_held at ends refuses keep d w r known stand = record { each = λ number entry there opened. by_entry number entry opened (job_there d.ledger.jobs number entry there) }
  where
    by_job : (number : ℕ) (entry : JobEntry) (job : KnownJob) → known_at known number ≡ Some job → StandsFor ends refuses keep (IsHeld at w r number) (length known) number job entry.credit Open
        → (j : AdmittedJob) × (known_at known number ≡ Some (Itself j)) × (entry.credit ≡ j.credit) × IsHeld at w r number j
    by_job number entry (Itself job) there t = (job, there, t.1, t.0)
    by_job number entry (Over outcome) there (inl is) = absurd (over_open outcome is)
    by_job number entry (Over outcome) there (inr gone) = let clash : Open ≡ Failed 76 = gone.0 in absurd cc

    by_entry : (number : ℕ) (entry : JobEntry) → entry.standing ≡ Open → (1 ≤ number) × (slice_get d.ledger.jobs (number - 1) ≡ Some entry)
        → (j : AdmittedJob) × (known_at known number ≡ Some (Itself j)) × (entry.credit ≡ j.credit) × IsHeld at w r number j
    by_entry number entry opened there =
        let some = there.0 in
        let is : number - 1 + 1 ≡ number = omega (arith, some) in
        let lt = within_get d.ledger.jobs (number - 1) entry there.1 in
        let count = stand.count in
        let job = get_within known (number - 1) (omega (arith, lt, count)) in
        by_job number entry job.0 (known_is known number some ∙ job.1)
        (subst (λ (p : ℕ × JobStanding). StandsFor ends refuses keep (IsHeld at w r p.0) (length known) p.0 job.0 entry.credit p.1) (λ k. (is k, opened k)) (stand.each (number - 1) entry job.0 there.1 job.1))

-- ---- a result comes from its submit

later : (events : List ServerEvent) (number : ℕ) (job : AdmittedJob) (e : ServerEvent) → IsSubmittedBefore events number job → IsSubmittedBefore (events ++ e ∷ []) number job
later events number job e t = record {
  earlier = t.earlier;
  asked = t.asked;
  between = t.between ++ e ∷ [];
  is_before = ap (λ l. l ++ e ∷ []) t.is_before ∙ joined_again t.earlier t.asked t.between (e ∷ []);
  is_submit = t.is_submit;
}

-- the submit was in the history, or the job was known at first
abbrev IsFrom : List KnownJob → List ServerEvent → ℕ → AdmittedJob → Type 0
IsFrom first events i job = IsSubmittedBefore events (i + 1) job ⊎ (slice_get first i ≡ Some (Itself job))

from_later : (first : List KnownJob) (events : List ServerEvent) (i : ℕ) (job : AdmittedJob) (e : ServerEvent) → IsFrom first events i job → IsFrom first (events ++ e ∷ []) i job
from_later first events i job e (inl t) = inl (later events (i + 1) job e t)
from_later first events i job e (inr was) = inr was

same_itself : (a b : AdmittedJob) → Itself a ≡ Itself b → a ≡ b
same_itself a b same = cc

submitted : (keys : List KeyedJob) (first : List KnownJob) (events : List ServerEvent) (known : List KnownJob) → AreKnown keys first events known → (i : ℕ) (job : AdmittedJob) → slice_get known i ≡ Some (Itself job) → IsFrom first events i job
submitted keys first _ _ none_yet i job at = inr at
submitted keys first _ _ (no_more events known e before none) i job at = from_later first events i job e (submitted keys first events known before i job at)
submitted keys first _ _ (one_again events known e before again) i job at = from_later first events i job e (submitted keys first events known before i job at)
submitted keys first _ _ (one_more events known e taken before is_submit) i job at = by_place (λ was. from_later first events i job e (submitted keys first events known before i job was)) (get_pushed known (Itself taken) i (Itself job) at)
  where
    by_place : (slice_get known i ≡ Some (Itself job) → IsFrom first (events ++ e ∷ []) i job) → (slice_get known i ≡ Some (Itself job)) ⊎ ((i ≡ length known) × (Itself taken ≡ Itself job)) → IsFrom first (events ++ e ∷ []) i job
    by_place there (inl was) = there was
    by_place there (inr new) =
        let same = same_itself taken job new.1 in
        inl (record {
          earlier = events;
          asked = e;
          between = [];
          is_before = refl;
          is_submit = subst (λ (t : ℕ × AdmittedJob). IsSubmit e (t.0 + 1) t.1) (λ k. (sym new.0 k, same k)) is_submit;
        })

place_of : (keys : List KeyedJob) (first : List KnownJob) (events : List ServerEvent) (known : List KnownJob) (number : ℕ) (job : AdmittedJob) → AreKnown keys first events known → known_at known number ≡ Some (Itself job)
    → IsSubmittedBefore events number job ⊎ (known_at first number ≡ Some (Itself job))
place_of keys first events known zero job are at = let clash : None ≡ Some (Itself job) = at in cc
place_of keys first events known (suc n) job are at = by (submitted keys first events known are (suc n - 1) job (sym (known_is known (suc n) (omega arith)) ∙ at))
  where
    by : IsFrom first events (suc n - 1) job → IsSubmittedBefore events (suc n) job ⊎ (known_at first (suc n) ≡ Some (Itself job))
    by (inl t) = let place : suc n - 1 + 1 ≡ suc n = omega arith in inl (subst (λ (k : ℕ). IsSubmittedBefore events k job) place t)
    by (inr was) = inr (known_is first (suc n) (omega arith) ∙ was)

-- a job that was over at first is known so at first
over_at : (keys : List KeyedJob) (first : List KnownJob) (events : List ServerEvent) (known : List KnownJob) → AreKnown keys first events known → (i : ℕ) (outcome : Result Report ℕ) → slice_get known i ≡ Some (Over outcome) → slice_get first i ≡ Some (Over outcome)
over_at keys first _ _ none_yet i outcome at = at
over_at keys first _ _ (no_more events known e before none) i outcome at = over_at keys first events known before i outcome at
over_at keys first _ _ (one_again events known e before again) i outcome at = over_at keys first events known before i outcome at
over_at keys first _ _ (one_more events known e taken before is_submit) i outcome at = by_place (λ was. over_at keys first events known before i outcome was) (get_pushed known (Itself taken) i (Over outcome) at)
  where
    by_place : (slice_get known i ≡ Some (Over outcome) → slice_get first i ≡ Some (Over outcome)) → (slice_get known i ≡ Some (Over outcome)) ⊎ ((i ≡ length known) × (Itself taken ≡ Over outcome)) → slice_get first i ≡ Some (Over outcome)
    by_place there (inl was) = there was
    by_place there (inr new) = let clash : Itself taken ≡ Over outcome = new.1 in absurd cc

was_at : (keys : List KeyedJob) (first : List KnownJob) (events : List ServerEvent) (known : List KnownJob) (number : ℕ) (outcome : Result Report ℕ) → AreKnown keys first events known → known_at known number ≡ Some (Over outcome)
    → known_at first number ≡ Some (Over outcome)
was_at keys first events known zero outcome are at = let clash : None ≡ Some (Over outcome) = at in cc
was_at keys first events known (suc n) outcome are at =
    known_is first (suc n) (omega arith) ∙ over_at keys first events known are (suc n - 1) outcome (sym (known_is known (suc n) (omega arith)) ∙ at)

no_result : (frame : List ℕ) (code : ℕ) → IsResultFrame frame → frame ≡ frame_or_refusal (refused code) → ⊥
no_result frame code f sent =
    let clash : 98 ≡ 99 = sym (ap third f.is ∙ third_of_result f.buffer f.returned f.spent f.tasks) ∙ ap third sent ∙ third_of_refused code None None in
    absurd (omega (arith, clash))

module _ (ends : ℕ → AdmittedJob → Result Report ℕ → Type 0) (refuses : ℕ → Type 0) (whole : (n : ℕ) (job : AdmittedJob) (report : Report) → ends n job (Ok report) → report.spent + report.returned ≡ job.credit)
    (keep : KeepLimits) (keys : List KeyedJob) (first : List KnownJob) (before : List ServerEvent) (number : ℕ) (e : ServerEvent) (f : IsResultFrame (frame_of_event e)) where
  by_outcome : (outcome : Result Report ℕ) → known_at first number ≡ Some (Over outcome) → frame_of_event e ≡ frame_or_refusal (outcome_told outcome) → WasReported first number e
  by_outcome (Ok report) was sent = record { report = report; was = was; sent = sent }
  by_outcome (Err code) was sent = absurd (no_result (frame_of_event e) code f sent)

  by_result : (known : List KnownJob) → AreKnown keys first before known → (told : Data) → IsResultKnown ends refuses keep known number told → frame_of_event e ≡ frame_or_refusal told → ComesFromSubmit ends first before number e ⊎ WasReported first number e
  by_result known are _ (failed job code at fails) sent = absurd (no_result (frame_of_event e) code f sent)
  by_result known are _ (not_over job at) sent = absurd (no_result (frame_of_event e) 77 f sent)
  by_result known are _ (forgotten job at may) sent = absurd (no_result (frame_of_event e) 76 f sent)
  by_result known are _ (unknown at) sent = absurd (no_result (frame_of_event e) 76 f sent)
  by_result known are _ (was_over outcome at) sent = inr (by_outcome outcome (was_at keys first before known number outcome are at) sent)
  by_result known are _ (reported job report at ended) sent = inl (record {
    job = job;
    from = place_of keys first before known number job are at;
    report = report;
    ended = ended;
    adds_up = whole number job report ended;
    sent = sent;
  })

  pub comes_from : IsToldKnown ends refuses keep keys first before number e → ComesFromSubmit ends first before number e ⊎ WasReported first number e
  comes_from t = by_result t.known t.are t.told t.is_result t.sent

-- ---- each desk of any server

home_if : (b : Bool) (names : List (List ℕ)) (place : ℕ) (e : ServerEvent) (events : List ServerEvent) → AreAtHome events → AreAtHome (put_if b (at_home names e) events)
home_if true names place (was_asked connection access query frame started) events all = (tt, all)
home_if true names place (has_ended id outcome) events all = (refl, all)
home_if false names place e events all = all

part_at_home : (names : List (List ℕ)) (place : ℕ) (events : List ServerEvent) → AreAtHome (part_of names place events)
part_at_home names place [] = tt
part_at_home names place (e ∷ events) = home_if (is_of names place e) names place e (part_of names place events) (part_at_home names place events)

module _ {R : Type 0} (m : JobsSteps R) (at : R → JobId → Option AdmittedJob) (ends : JobId → AdmittedJob → Result Report ℕ → Type 0) (refuses : ℕ → Type 0) (runs : RunsJobs m at ends refuses) (place : ℕ) where
  apart_id : (id : JobId) (n : ℕ) → id.desk ≢ place → id_at place n ≢ id
  apart_id id n apart same = apart (sym (ap (λ (i : JobId). i.desk) same))

  other_number : (k n : ℕ) → k ≢ n → id_at place k ≢ id_at place n
  other_number k n apart same = apart (ap (λ (i : JobId). i.number) same)

  -- steps for other desks change no job of this one
  others_change_none : (r s : R) (n : ℕ) → Others m place r s → at s (id_at place n) ≡ at r (id_at place n)
  others_change_none r _ n no_step = refl
  others_change_none r _ n (one_start s t id job (Ok done) before apart starts) = (runs.started s id job done t starts).1 (id_at place n) (apart_id id n apart) ∙ others_change_none r s n before
  others_change_none r _ n (one_start s t id job (Err code) before apart starts) = (runs.refused s id job code t starts).1 (id_at place n) ∙ others_change_none r s n before
  others_change_none r _ n (one_look s t id seen before apart looks) = runs.looked s id seen t looks (id_at place n) ∙ others_change_none r s n before
  others_change_none r _ n (one_end s t id outcome before apart takes) = (runs.taken s id outcome t takes).3 (id_at place n) (apart_id id n apart) ∙ others_change_none r s n before
  others_change_none r _ n (no_end s t before takes) = runs.none s t takes (id_at place n) ∙ others_change_none r s n before

  -- the runner as the desk sees it runs the desk's jobs
  pub runs_seen : RunsNumbers (seen_by_desk m place) (λ r n. at r (id_at place n)) (λ n. ends (id_at place n)) refuses
  runs_seen = record {
    started = λ r n job done s t.
        let step = runs.started t.0 (id_at place n) job done s t.2 in
        (step.0, λ k apart. step.1 (id_at place k) (other_number k n apart) ∙ others_change_none r t.0 k t.1);
    refused = λ r n job code s t.
        let step = runs.refused t.0 (id_at place n) job code s t.2 in
        (step.0, λ k. step.1 (id_at place k) ∙ others_change_none r t.0 k t.1);
    looked = λ r n seen s t k. runs.looked t.0 (id_at place n) seen s t.2 (id_at place k) ∙ others_change_none r t.0 k t.1;
    taken = λ r n outcome s t.
        let step = runs.taken t.0 (id_at place n) outcome s t.2 in
        (step.0, sym (others_change_none r t.0 n t.1) ∙ step.1, step.2, λ k apart. step.3 (id_at place k) (other_number k n apart) ∙ others_change_none r t.0 k t.1);
    none = λ r s t k. runs.none t.0 s t.2 (id_at place k) ∙ others_change_none r t.0 k t.1;
    whole = λ n job report is. runs.whole (id_at place n) job report is;
  }

  module _ (first s : ServerState R) (events : List ServerEvent) (begun desk : DeskState) (happens : Happens m first events s) (there : slice_get first.desks place ≡ Some begun) (last : begun.keys ≡ latest begun.keys)
      (now : slice_get s.desks place ≡ Some desk) (known : List KnownJob) (are : AreKnownAtFirst (λ r n. at r (id_at place n)) begun (waiting_of place first.waiting) first.jobs known)
      (before after : List ServerEvent) (e : ServerEvent) (number : ℕ) (is : part_of first.names place events ≡ before ++ e ∷ after) (asks : AsksForResult number e) where
    pub told_at_each : IsToldKnown (λ n. ends (id_at place n)) refuses first.keep begun.keys known before number e
    told_at_each =
        let own = each_alone m place first begun there events s desk happens now in
        told_at (seen_by_desk m place) (λ r n. at r (id_at place n)) (λ n. ends (id_at place n)) refuses runs_seen first.keep begun (waiting_of place first.waiting) first.jobs last known are
        before after e number (one_desk first.keep desk (waiting_of place s.waiting) own.left)
        (subst (λ l. Happens (seen_by_desk m place) (one_desk first.keep begun (waiting_of place first.waiting) first.jobs) l (one_desk first.keep desk (waiting_of place s.waiting) own.left)) is own.happens)
        (subst AreAtHome is (part_at_home first.names place events)) asks

    pub comes_at_each : IsResultFrame (frame_of_event e) → ComesFromSubmit (λ n. ends (id_at place n)) known before number e ⊎ WasReported known number e
    comes_at_each f =
        comes_from (λ n. ends (id_at place n)) refuses (λ n job report ended. runs.whole (id_at place n) job report ended) first.keep begun.keys known before number e f told_at_each

  -- open jobs are held by the runner of all jobs
  module _ (first s : ServerState R) (events : List ServerEvent) (begun desk : DeskState) (happens : Happens m first events s) (there : slice_get first.desks place ≡ Some begun) (last : begun.keys ≡ latest begun.keys)
      (now : slice_get s.desks place ≡ Some desk) (known : List KnownJob) (are : AreKnownAtFirst (λ r n. at r (id_at place n)) begun (waiting_of place first.waiting) first.jobs known) where
    pub held_at_each : (later : List KnownJob) × AreKnown begun.keys known (part_of first.names place events) later × HoldsOpenJobs (λ r n. at r (id_at place n)) desk (waiting_of place s.waiting) s.jobs later
    held_at_each =
        let own = each_alone m place first begun there events s desk happens now in
        let t = stood_behind (seen_by_desk m place) (λ r n. at r (id_at place n)) (λ n. ends (id_at place n)) refuses runs_seen first.keep begun (waiting_of place first.waiting) first.jobs last known are
        (part_of first.names place events) (one_desk first.keep desk (waiting_of place s.waiting) own.left) own.happens (part_at_home first.names place events) in
        let one = t.1 in
        let same : desk ≡ t.0 = cc in
        let open_jobs = open_held (λ r n. at r (id_at place n)) (λ n. ends (id_at place n)) refuses first.keep t.0 (waiting_of place s.waiting) own.left t.2.known t.2.stand in (
          t.2.known,
          t.2.are,
          record {
            each = λ number entry is opened.
                let h = open_jobs.each number entry (subst (λ (d : DeskState). job_at d.ledger.jobs number ≡ Some entry) same is) opened in
                (h.0, h.1, h.2, held_on (waiting_of place s.waiting) own.left number h.0 own.others h.3);
          },
        )
      where
        held_on : (w : List (JobId × AdmittedJob)) (r : R) (n : ℕ) (j : AdmittedJob) → Others m place r s.jobs → IsHeld (λ x k. at x (id_at place k)) w r n j → IsHeld (λ x k. at x (id_at place k)) w s.jobs n j
        held_on w r n j others h =
            let same = others_change_none r s.jobs n others in
            record { there = elim h.there [ inl waits ↦ inl waits | inr runs ↦ inr (same ∙ runs) ]; only = λ other is. h.only other (sym same ∙ is) }
