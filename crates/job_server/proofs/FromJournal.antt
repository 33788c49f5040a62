-- A result comes from the journal, or from a submit, at a server that goes on from a recovered desk.
use Rattle.std.proofs.Common.{◌≡◌, ◌+◌, ◌-◌, ◌≤◌, ℕ, Bool, List, [], ◌∷◌, ◌++◌, slice_get, Option, Some, Result, Ok, refl, sym, ap, subst, ◌∙◌, arith}
use Rattle.std.proofs.lemmas.Option.{slice_get_within}
use Rattle.serde_json.specs.Data.{Data}
use Rattle.job_core.specs.Admitted.{AdmittedJob}
use Rattle.accounts.specs.declared.jobs.JobEntry.{JobEntry}
use Rattle.accounts.specs.declared.jobs.JobStanding.TheVariants.{Open}
use Rattle.accounts.specs.declared.keep_limits.KeepLimits.{KeepLimits}
use Rattle.accounts.proofs.Listed.{get_within, same_some}
use Rattle.recovery.specs.Histories.{IsAfter}
use Rattle.desk_journal.specs.DeskSteps.{DeskState, IsNewDesk, MakesBytes}
use Rattle.desk_journal.specs.OpenJobs.{ComesFromChange, open_job_at}
use Rattle.desk_journal.proofs.OpenLemmas.{AreHeldOpen, held_open}
use Rattle.sessions.specs.Grammar.{result}
use Rattle.shared_desk.specs.Histories.{HistoryEntry, by_any_passage}
use Rattle.shared_desk.specs.ServerAsked.{AreAskedOfDesks}
use Rattle.shared_desk.proofs.AskedOfDesks.{asked_of_desks}
use Rattle.job_pools.specs.Endings.{IsRun}
use Rattle.job_pools.specs.Started.{pooled_at, pooled_count}
use Rattle.job_server.specs.AfterRestart.{AreKnown, AreRecovered, ComesFromJournal, IsRecoveredAs, IsRecoveredHistory, IsResultKnown, IsToldKnown, Itself, KnownJob, Over, forgotten, known_at, no_more, none_yet, not_over, failed, one_more, reported, unknown, was_over}
use Rattle.job_server.specs.EndToEnd.{HasReply, IsResultFrame, StaysTold}
use Rattle.job_server.specs.Recorded.{IsServingRecorded, RecordedHosted, recorded_answers}
use Rattle.job_server.specs.declared.bounds.Bounds.{Bounds}
use Rattle.job_server.specs.declared.fault.ServeFault.{ServeFault}
use Rattle.job_server.proofs.FromSubmit.{looks_by, no_result, pooled_job, starts_by, takes_by}
use Rattle.job_server.proofs.HistoryStands.{history_tells, known_is}
use Rattle.job_server.proofs.HostAnswers.{recording_host}
use Rattle.job_server.proofs.LimitedHolds.{limited_holds}
use Rattle.job_server.proofs.ListEnds.{get_before}
use Rattle.job_server.proofs.Restarted.{recovered_jobs, restarted_stand}
use Rattle.job_server.proofs.StandsFor.{AllStand, over_open}
use Rattle.job_server.proofs.StaysOver.{results_stay}

-- the jobs of the recovered desk keep their places
pub first_known : (first : List KnownJob) (history : List HistoryEntry) (known : List KnownJob) → AreKnown first history known → (i : ℕ) (job : KnownJob) → slice_get first i ≡ Some job → slice_get known i ≡ Some job
first_known first _ _ none_yet i job at = at
first_known first _ _ (no_more history known e before no_job) i job at = first_known first history known before i job at
first_known first _ _ (one_more history known e new before is_submit) i job at = get_before known (Itself new ∷ []) i job (first_known first history known before i job at)

-- what is known of an open job is the job itself
pub known_open : (state : DeskState) (changes : List (List ℕ)) (first : List KnownJob) → AreHeldOpen changes state → AreRecovered state first → (number : ℕ) (job : AdmittedJob) → open_job_at number state.held ≡ Some job
    → slice_get first (number - 1) ≡ Some (Itself job)
known_open state changes first sound recovered number job held =
    let h = sound.opened number job held in
    let lt = slice_get_within state.desk.jobs (number - 1) h.entry h.at in
    let count = recovered.count in
    let there = get_within first (number - 1) (omega (arith, lt, count)) in
    by h.counted h.entry h.opened there.0 there.1 (recovered.each (number - 1) h.entry there.0 h.at there.1)
  where
    by : 1 ≤ number → (entry : JobEntry) → entry.standing ≡ Open → (k : KnownJob) → slice_get first (number - 1) ≡ Some k → IsRecoveredAs state.held (number - 1 + 1) entry.standing k → slice_get first (number - 1) ≡ Some (Itself job)
    by some entry opened (Itself j) at is =
        let place : number - 1 + 1 ≡ number = omega (arith, some) in
        let same : j ≡ job = same_some j job (sym is.1 ∙ ap (λ (n : ℕ). open_job_at n state.held) place ∙ held) in
        at ∙ ap (λ (x : AdmittedJob). Some (Itself x)) same
    by some entry opened (Over outcome) at is = absurd (over_open outcome (sym opened ∙ is))

-- a result of it is the report of its run
module _ (keep : KeepLimits) (changes : List (List ℕ)) (known : List KnownJob) (number : ℕ) (job : AdmittedJob) (e : HistoryEntry) (from : ComesFromChange changes number job) (at : known_at known number ≡ Some (Itself job)) (f : IsResultFrame e.reply) where
  same_job : (j : AdmittedJob) → known_at known number ≡ Some (Itself j) → j ≡ job
  same_job j there = by (sym there ∙ at)
    where
      by : ◌≡◌ {A = Option KnownJob} (Some (Itself j)) (Some (Itself job)) → j ≡ job
      by same = cc

  pub by_result : (told : Data) → IsResultKnown keep known number told → HasReply e told → ComesFromJournal changes number e
  by_result _ (reported j report there run) tells = record {
    job = job;
    from = from;
    report = report;
    run = subst (λ (x : AdmittedJob). IsRun number x report) (same_job j there) run;
    tells = tells;
  }
  by_result _ (failed j code there fails) tells = absurd (no_result e code f tells)
  by_result _ (not_over j there) tells = absurd (no_result e 77 f tells)
  by_result _ (forgotten j there may) tells = absurd (no_result e 76 f tells)
  by_result _ (unknown there) tells = absurd (no_result e 76 f tells)
  by_result _ (was_over outcome there) tells = absurd (by (sym there ∙ at))
    where
      by : ◌≡◌ {A = Option KnownJob} (Some (Over outcome)) (Some (Itself job)) → ⊥
      by same = cc

-- ---- a server

module _ {Q : Type 0} (taken : Q → List ℕ) (told : Q → Type 0) (changes : List (List ℕ)) (state : DeskState) (led : IsAfter IsNewDesk MakesBytes changes state) (bounds : Bounds) where
  sound : AreHeldOpen changes state
  sound = held_open changes state led

  first : (known : List KnownJob) × AreRecovered state known
  first = recovered_jobs changes state sound

  begun_stands : (history : List HistoryEntry) (h : IsRecoveredHistory taken told state bounds history) (s : RecordedHosted Q) → s ≡ h.begun → (s.1.keep ≡ bounds.keep) × AllStand bounds.keep first.0 s.0.jobs (pooled_job s.1.runner)
  begun_stands history h s is =
      let stand = restarted_stand changes state sound bounds.keep first.0 first.1 starts_by looks_by takes_by pooled_job (limited_holds pooled_at pooled_count) state.desk refl (record { runner = h.first; limit = bounds.open_jobs }) h.begun.0 h.begun.1.runner h.restarted.started in (
        ap (λ (x : RecordedHosted Q). x.1.keep) is ∙ h.restarted.kept,
        subst (λ (x : RecordedHosted Q). AllStand bounds.keep first.0 x.0.jobs (pooled_job x.1.runner)) (sym is) stand,
      )

  pub restarted_tells : (before after : List HistoryEntry) (e : HistoryEntry) (number : ℕ) → IsRecoveredHistory taken told state bounds (before ++ e ∷ after) → e.query.asked ≡ Ok (result number)
      → (known : List KnownJob) × AreRecovered state known × IsToldKnown bounds.keep known before number e
  restarted_tells before after e number h asks = (
    first.0,
    first.1,
    history_tells starts_by looks_by takes_by pooled_job (limited_holds pooled_at pooled_count) (by_any_passage (recorded_answers taken told)) (λ s. s.0) (λ s. s.1.runner) (λ s. s.1.keep) (recording_host starts_by looks_by takes_by taken told)
        (λ s. s ≡ h.begun) bounds.keep first.0 (begun_stands (before ++ e ∷ after) h) before after e number h.end h.legal asks,
  )

  pub open_comes : (before after : List HistoryEntry) (e : HistoryEntry) (number : ℕ) (job : AdmittedJob) → IsRecoveredHistory taken told state bounds (before ++ e ∷ after) → e.query.asked ≡ Ok (result number)
      → open_job_at number state.held ≡ Some job → IsResultFrame e.reply → ComesFromJournal changes number e
  open_comes before after e number job h asks held f =
      let told = restarted_tells before after e number h asks in
      let opened = sound.opened number job held in
      let there = first_known told.0 before told.2.known told.2.taken (number - 1) (Itself job) (known_open state changes told.0 sound told.1 number job held) in
      by_result bounds.keep changes told.2.known number job e opened.from (known_is told.2.known number opened.counted ∙ there) f told.2.told told.2.is_result told.2.tells

  pub restarted_stays : (before between after : List HistoryEntry) (e f : HistoryEntry) (number : ℕ) → IsRecoveredHistory taken told state bounds (before ++ e ∷ (between ++ f ∷ after))
      → e.query.asked ≡ Ok (result number) → f.query.asked ≡ Ok (result number) → StaysTold e f
  restarted_stays before between after e f number h asks_e asks_f =
      results_stay starts_by looks_by takes_by (by_any_passage (recorded_answers taken told)) (λ s. s.0) (λ s. s.1.runner) (λ s. s.1.keep) (recording_host starts_by looks_by takes_by taken told)
      (λ s. s ≡ h.begun) before between after e f number h.end h.legal asks_e asks_f

pub recorded_history : {Q : Type 0} (taken : Q → List ℕ) (told : Q → Type 0) (state : DeskState) (bounds : Bounds) (sessions : ℕ) (may_stop : Bool) (outcome : Result (Unit {0}) ServeFault)
    → (s : IsServingRecorded taken told state bounds sessions may_stop outcome) → (plain : List HistoryEntry) × AreAskedOfDesks s.serving.history plain × IsRecoveredHistory taken told state bounds plain
recorded_history taken told state bounds sessions may_stop outcome s =
    let r = asked_of_desks (by_any_passage (recorded_answers taken told)) (λ x. x ≡ s.begun) s.serving.history s.end s.serving.legal in
    (r.0, r.1, record { first = s.first; begun = s.begun; restarted = s.restarted; end = s.end; legal = r.2 })
