-- After every history of a desk and a runner, the desk's jobs stand for those that are known.
use Rattle.std.proofs.Common.{◌≡◌, ◌≢◌, ◌⊎◌, ◌+◌, ◌-◌, ◌<◌, ◌≤◌, ℕ, zero, suc, Bool, true, false, nat_eq, if◌then◌else◌, List, [], ◌∷◌, ◌++◌, length, map, slice_get, Option, Some, None, Result, Ok, Err, refl, sym, ap, subst, ◌∙◌, inl, inr, arith}
use Rattle.std.proofs.lemmas.Bool.{cases_lt}
use Rattle.std.proofs.lemmas.Bool.Decides.{nat_tests}
use Rattle.serde_json.specs.Data.{Data}
use Rattle.credit_book.specs.declared.book.Report.{Report}
use Rattle.credit_book.specs.declared.board.Progress.{Progress}
use Rattle.accounts.specs.declared.keep_limits.KeepLimits.{KeepLimits}
use Rattle.accounts.specs.declared.jobs.JobEntry.{JobEntry}
use Rattle.accounts.specs.declared.jobs.JobStanding.{JobStanding}
use Rattle.accounts.specs.declared.jobs.JobStanding.TheVariants.{Open, Reported, Failed}
use Rattle.job_core.specs.Admitted.{AdmittedJob}
use Rattle.accounts.specs.Jobs.{report_of}
use Rattle.accounts.specs.Ledgers.{Ledger, report_at, report_in, KeepsWithin}
use Rattle.job_core.specs.declared.admission.ProgramBytes.{ProgramBytes}
use Rattle.sessions.specs.Grammar.{Asked, grant, account, submit, status, result, program_asked}
use Rattle.sessions.specs.Replies.{reply_data, frame_or_refusal, submit_data}
use Rattle.streams.specs.Passing.{Taken, none_yet as none_taken, one_more as one_taken, Passes}
use Rattle.streams.specs.Answering.{Replies, Grants, GrantsNone, Settles, Submits, report_told, refused}
use Rattle.shared_desk.specs.Histories.{HistoryEntry, Query, Replays, none_yet as nothing_replayed, one_more as one_replayed}
use Rattle.job_pools.specs.Endings.{IsEndOf}
use Rattle.job_server.specs.AfterRestart.{KnownJob, Itself, Over, AreKnown, none_yet, one_more, no_more, IsResultKnown, reported, failed, was_over, not_over, forgotten, unknown, known_at, over_standing, outcome_told, IsToldKnown}
use Rattle.job_server.specs.EndToEnd.{IsSubmit, TakesNoJob, AsksForJob, HasReply}
use Rattle.job_server.proofs.ListEnds.{length_pushed, get_within, get_past, within_get}
use Rattle.job_server.proofs.ReplyFrames.{is_framed}
use Rattle.job_server.proofs.HostAnswers.{AnswersOnce, IsHost}
use Rattle.job_server.proofs.StaysOver.{is_at, reported_there}
use Rattle.job_server.proofs.StandsFor.{AllStand, StandsFor, all_stand, ended_by, stand_taken, stand_finished, stand_noted, stand_kept, job_is}

-- ---- the result that is told

pub known_is : (jobs : List KnownJob) (number : ℕ) → 1 ≤ number → known_at jobs number ≡ slice_get jobs (number - 1)
known_is jobs number some =
    let apart : nat_eq number 0 ≡ false = grind (arith, nat_tests) in
    ap (λ (b : Bool). if◌then◌else◌ {A = Option KnownJob} b None (slice_get jobs (number - 1))) apart

told_over : (outcome : Result Report ℕ) → report_told (report_of (over_standing outcome)) ≡ outcome_told outcome
told_over (Ok report) = refl
told_over (Err code) = refl

by_standing : (keep : KeepLimits) (jobs : List KnownJob) (number : ℕ) (held : Option AdmittedJob) (job : KnownJob) (credit : ℕ) (standing : JobStanding) → known_at jobs number ≡ Some job
    → StandsFor held keep (length jobs) number job credit standing → IsResultKnown keep jobs number (report_told (report_of standing))
by_standing keep jobs number held (Itself job) credit Open at stands = not_over job at
by_standing keep jobs number held (Itself job) credit (Reported report) at stands = reported job report at stands
by_standing keep jobs number held (Itself job) credit (Failed code) at (inl fails) = failed job code at fails
by_standing keep jobs number held (Itself job) credit (Failed code) at (inr gone) =
    subst (λ (c : ℕ). IsResultKnown keep jobs number (refused c)) (sym gone.0) (forgotten (Itself job) at gone.1)
by_standing keep jobs number held (Over outcome) credit standing at (inl is) =
    subst (IsResultKnown keep jobs number) (sym (ap (λ (st : JobStanding). report_told (report_of st)) is ∙ told_over outcome)) (was_over outcome at)
by_standing keep jobs number held (Over outcome) credit standing at (inr gone) =
    subst (λ (st : JobStanding). IsResultKnown keep jobs number (report_told (report_of st))) (sym gone.0) (forgotten (Over outcome) at gone.1)

by_entry : (keep : KeepLimits) (jobs : List KnownJob) (entries : List JobEntry) (held : ℕ → Option AdmittedJob) (number : ℕ) → 1 ≤ number → AllStand keep jobs entries held → (o : Option JobEntry)
    → slice_get entries (number - 1) ≡ o → IsResultKnown keep jobs number (report_told (report_in o))
by_entry keep jobs entries held number some stand None at =
    unknown (known_is jobs number some ∙ get_past jobs (number - 1) (past (cases_lt (number - 1) (length entries))))
  where
    past : (number - 1 < length entries) ⊎ (length entries ≤ number - 1) → length jobs ≤ number - 1
    past (inl lt) = let there = get_within entries (number - 1) lt in let clash : None ≡ Some there.0 = sym at ∙ there.1 in cc
    past (inr le) = let count = stand.count in omega (arith, le, count)
by_entry keep jobs entries held number some stand (Some entry) at =
    by_standing keep jobs number (held number) job.0 entry.credit entry.standing (known_is jobs number some ∙ job.1)
    (subst (λ (n : ℕ). StandsFor (held n) keep (length jobs) n job.0 entry.credit entry.standing) is (stand.each (number - 1) entry job.0 at job.1))
  where
    is : number - 1 + 1 ≡ number
    is = omega (arith, some)

    job : (j : KnownJob) × (slice_get jobs (number - 1) ≡ Some j)
    job = let lt = within_get entries (number - 1) entry at in let count = stand.count in get_within jobs (number - 1) (omega (arith, lt, count))

pub result_told : (keep : KeepLimits) (jobs : List KnownJob) (desk : Ledger) (held : ℕ → Option AdmittedJob) (number : ℕ) → AllStand keep jobs desk.jobs held → IsResultKnown keep jobs number (report_told (report_at desk number))
unfolding report_at
result_told keep jobs desk held zero stand = unknown refl
result_told keep jobs desk held (suc n) stand =
    subst (λ (o : Option JobEntry). IsResultKnown keep jobs (suc n) (report_told (report_in o))) (sym (job_is desk.jobs (suc n) (omega arith)))
    (by_entry keep jobs desk.jobs held (suc n) (omega arith) stand (slice_get desk.jobs (suc n - 1)) refl)

-- ---- a desk and a runner

-- A runner holds under a number the job that was started under it, until it gives that.
pub record HoldsJobs {R : Type 0} (starts : R → ℕ → AdmittedJob → Result (Unit {0}) ℕ → R → Type 0) (looks : R → ℕ → Progress → R → Type 0) (takes : R → Option (ℕ × Result Report ℕ) → R → Type 0)
    (held : R → ℕ → Option AdmittedJob) : Type 0 where
  pub started : (r : R) (n : ℕ) (job : AdmittedJob) (done : Unit {0}) (s : R) → starts r n job (Ok done) s → (held s n ≡ Some job) × ((m : ℕ) → m ≢ n → held s m ≡ held r m)
  pub refused : (r : R) (n : ℕ) (job : AdmittedJob) (code : ℕ) (s : R) → starts r n job (Err code) s → ((code ≡ 81) ⊎ (code ≡ 99)) × ((m : ℕ) → held s m ≡ held r m)
  pub looked : (r : R) (n : ℕ) (told : Progress) (s : R) → looks r n told s → (m : ℕ) → held s m ≡ held r m
  pub taken : (r : R) (n : ℕ) (outcome : Result Report ℕ) (s : R) → takes r (Some (n, outcome)) s → (job : AdmittedJob) × (held r n ≡ Some job) × IsEndOf n job outcome × ((m : ℕ) → m ≢ n → held s m ≡ held r m)
  pub none : (r s : R) → takes r None s → (m : ℕ) → held s m ≡ held r m

module _ {R : Type 0} (starts : R → ℕ → AdmittedJob → Result (Unit {0}) ℕ → R → Type 0) (looks : R → ℕ → Progress → R → Type 0) (takes : R → Option (ℕ × Result Report ℕ) → R → Type 0)
    (held : R → ℕ → Option AdmittedJob) (holds : HoldsJobs starts looks takes held) where
  -- finished jobs are passed to the desk
  after_taken : (keep : KeepLimits) (jobs : List KnownJob) (d : Ledger) (r : R) (e : Ledger) (s : R) → AllStand keep jobs d.jobs (held r) → Taken takes d r e s → AllStand keep jobs e.jobs (held s)
  after_taken keep jobs d r e s stand none_taken = stand
  after_taken keep jobs d r e s stand (one_taken d1 r1 number outcome s1 e1 before step notes) =
      let t = holds.taken r1 number outcome s1 step in
      stand_noted keep jobs d1 (held r1) (held s1) number outcome e1 (after_taken keep jobs d r d1 r1 stand before) t.3
      (λ job is. ended_by number job outcome (subst (λ (j : AdmittedJob). IsEndOf number j outcome) (same_job t.0 job (sym t.1 ∙ is)) t.2)) notes
    where
      same_job : (a b : AdmittedJob) → Some a ≡ Some b → a ≡ b
      same_job a b same = cc

  after_passes : (keep : KeepLimits) (jobs : List KnownJob) (d : Ledger) (r : R) (e : Ledger) (s : R) → AllStand keep jobs d.jobs (held r) → Passes takes d r e s → AllStand keep jobs e.jobs (held s)
  after_passes keep jobs d r e s stand p = all_stand keep jobs e.jobs (held p.last) (held s) (holds.none p.last s p.none_left) (after_taken keep jobs d r e p.last stand p.taken)

  -- ---- one request

  -- the jobs that are known at first and behind a history, and the desk and the runner after it
  abbrev pub Stands : KeepLimits → List KnownJob → List HistoryEntry → Ledger → R → Type 0
  Stands keep first history d r = (jobs : List KnownJob) × AreKnown first history jobs × AllStand keep jobs d.jobs (held r)

  same_desk : (keep : KeepLimits) (first : List KnownJob) (history : List HistoryEntry) (d : Ledger) (r : R) (e : HistoryEntry) (a : Ledger) (s : R) → (jobs : List KnownJob) → AreKnown first history jobs → AllStand keep jobs d.jobs (held r)
      → TakesNoJob e → a.jobs ≡ d.jobs → ((m : ℕ) → held s m ≡ held r m) → Stands keep first (history ++ e ∷ []) a s
  same_desk keep first history d r e a s jobs taken stand no_job same held_same =
      (jobs, no_more history jobs e taken no_job, subst (λ es. AllStand keep jobs es (held s)) (sym same) (all_stand keep jobs d.jobs (held r) (held s) held_same stand))

  after_submit : (keep : KeepLimits) (first : List KnownJob) (history : List HistoryEntry) (d : Ledger) (r : R) (e : HistoryEntry) (a : Ledger) (s : R) → (jobs : List KnownJob) → AreKnown first history jobs → AllStand keep jobs d.jobs (held r)
      → (name : List ℕ) (programs : List ProgramBytes) (credit : ℕ) (buffer : List ℕ) (told : Data) → e.query.asked ≡ Ok (submit name (record { programs = map program_asked programs; credit = credit; buffer = buffer })) → HasReply e told
      → Submits starts d r name programs credit buffer told a s → Stands keep first (history ++ e ∷ []) a s
  after_submit keep first history d r e a s jobs taken stand name programs credit buffer told asks tells (inr n) =
      same_desk keep first history d r e a s jobs taken stand (inr (n.fault, tells ∙ ap frame_or_refusal n.tells)) (ap (λ (l : Ledger). l.jobs) n.same) (λ m. ap (λ (x : R). held x m) n.same_runner)
  after_submit keep first history d r e a s jobs taken stand name programs credit buffer told asks tells (inl t) =
      (jobs ++ Itself t.job ∷ [], one_more history jobs e t.job taken is_submit, by_outcome t.outcome t.starts_job t.settles)
    where
      number : length t.mid.jobs ≡ length jobs + 1
      number = ap length t.takes.jobs.jobs ∙ length_pushed d.jobs t.takes.entry ∙ ap (λ (n : ℕ). n + 1) stand.count

      is_submit : IsSubmit e (length jobs + 1) t.job
      is_submit = record {
        name = name;
        programs = programs;
        credit = credit;
        buffer = buffer;
        asks = asks;
        admitted = t.admitted;
        tells = tells ∙ ap frame_or_refusal t.tells ∙ ap (λ (n : ℕ). frame_or_refusal (submit_data n)) number;
      }

      credited : t.takes.entry.credit ≡ t.job.credit
      credited = t.takes.credited ∙ sym t.admitted.same_credit

      -- the jobs of a runner that had not refused the start
      as_held : ℕ → Option AdmittedJob
      as_held m = if◌then◌else◌ {A = Option AdmittedJob} (nat_eq m (length t.mid.jobs)) (Some t.job) (held r m)

      held_here : (m : ℕ) → length t.mid.jobs ≡ m → as_held m ≡ Some t.job
      held_here m same =
          let is : nat_eq m (length t.mid.jobs) ≡ true = grind (arith, nat_tests) in
          ap (λ (b : Bool). if◌then◌else◌ {A = Option AdmittedJob} b (Some t.job) (held r m)) is

      held_other : (m : ℕ) → m ≢ length t.mid.jobs → as_held m ≡ held r m
      held_other m apart =
          let is : nat_eq m (length t.mid.jobs) ≡ false = grind (arith, nat_tests) in
          ap (λ (b : Bool). if◌then◌else◌ {A = Option AdmittedJob} b (Some t.job) (held r m)) is

      taken_with : (b : ℕ → Option AdmittedJob) → b (length jobs + 1) ≡ Some t.job → ((m : ℕ) → m ≢ length jobs + 1 → b m ≡ held r m) → AllStand keep (jobs ++ Itself t.job ∷ []) t.mid.jobs b
      taken_with b here others =
          subst (λ es. AllStand keep (jobs ++ Itself t.job ∷ []) es b) (sym t.takes.jobs.jobs)
          (stand_taken keep jobs d.jobs (held r) b (Itself t.job) t.takes.entry stand
          (subst (StandsFor (b (length jobs + 1)) keep (length jobs + 1) (length jobs + 1) (Itself t.job) t.takes.entry.credit) (sym t.takes.opened) (here, credited)) others)

      by_outcome : (o : Result (Unit {0}) ℕ) → starts r (length t.mid.jobs) t.job o s → Settles t.mid (length t.mid.jobs) o a → AllStand keep (jobs ++ Itself t.job ∷ []) a.jobs (held s)
      by_outcome (Ok done) started settles =
          let step = holds.started r (length t.mid.jobs) t.job done s started in
          let there : held s (length jobs + 1) ≡ Some t.job = ap (held s) (sym number) ∙ step.0 in
          subst (λ (l : Ledger). AllStand keep (jobs ++ Itself t.job ∷ []) l.jobs (held s)) (sym settles)
          (taken_with (held s) there (λ m apart. step.1 m (λ same. apart (same ∙ number))))
      by_outcome (Err code) started settles =
          let step = holds.refused r (length t.mid.jobs) t.job code s started in
          stand_finished keep (jobs ++ Itself t.job ∷ []) t.mid as_held (held s) (length t.mid.jobs) (Err code) a
          (taken_with as_held (held_here (length jobs + 1) number) (λ m apart. held_other m (λ same. apart (same ∙ number))))
          (λ m apart. step.1 m ∙ sym (held_other m apart))
          (λ job is. step.0) settles

  after_replies : (keep : KeepLimits) (first : List KnownJob) (history : List HistoryEntry) (d : Ledger) (r : R) (e : HistoryEntry) (a : Ledger) (s : R) → (jobs : List KnownJob) → AreKnown first history jobs → AllStand keep jobs d.jobs (held r)
      → (query : Result Asked ℕ) (told : Data) → e.query.asked ≡ query → HasReply e told → Replies starts looks d r query told a s → Stands keep first (history ++ e ∷ []) a s
  unfolding Replies
  after_replies keep first history d r e a s jobs taken stand (Err code) told asks tells t =
      same_desk keep first history d r e a s jobs taken stand (inl (subst (λ q. AsksForJob q → ⊥) (sym asks) (λ h. h))) (ap (λ (l : Ledger). l.jobs) t.1) (λ m. ap (λ (x : R). held x m) t.2)
  after_replies keep first history d r e a s jobs taken stand (Ok (grant name amount)) told asks tells t =
      same_desk keep first history d r e a s jobs taken stand (inl (subst (λ q. AsksForJob q → ⊥) (sym asks) (λ h. h))) (granted t.0) (λ m. ap (λ (x : R). held x m) t.1)
    where
      granted : Grants d name amount told a ⊎ GrantsNone d name amount told a → a.jobs ≡ d.jobs
      granted (inl g) = g.more.jobs
      granted (inr g) = ap (λ (l : Ledger). l.jobs) g.same
  after_replies keep first history d r e a s jobs taken stand (Ok (account name)) told asks tells t =
      same_desk keep first history d r e a s jobs taken stand (inl (subst (λ q. AsksForJob q → ⊥) (sym asks) (λ h. h))) (ap (λ (l : Ledger). l.jobs) t.1) (λ m. ap (λ (x : R). held x m) t.2)
  after_replies keep first history d r e a s jobs taken stand (Ok (submit name order)) told asks tells t =
      after_submit keep first history d r e a s jobs taken stand name t.0 order.credit order.buffer told
      (asks ∙ ap (λ ps. Ok (submit name (record { programs = ps; credit = order.credit; buffer = order.buffer }))) (sym t.1)) tells t.2
  after_replies keep first history d r e a s jobs taken stand (Ok (status number)) told asks tells t =
      same_desk keep first history d r e a s jobs taken stand (inl (subst (λ q. AsksForJob q → ⊥) (sym asks) (λ h. h))) (ap (λ (l : Ledger). l.jobs) t.3) (holds.looked r number t.0 s t.1)
  after_replies keep first history d r e a s jobs taken stand (Ok (result number)) told asks tells t =
      same_desk keep first history d r e a s jobs taken stand (inl (subst (λ q. AsksForJob q → ⊥) (sym asks) (λ h. h))) (ap (λ (l : Ledger). l.jobs) t.1) (λ m. ap (λ (x : R). held x m) t.2)

  pub after_answer : (keep : KeepLimits) (first : List KnownJob) (history : List HistoryEntry) (d : Ledger) (r : R) (e : HistoryEntry) (a : Ledger) (s : R) → Stands keep first history d r
      → AnswersOnce starts looks takes keep d r e a s → Stands keep first (history ++ e ∷ []) a s
  after_answer keep first history d r e a s stands once =
      let b = once.answered in
      let passed = after_passes keep stands.0 d r b.mid b.rest stands.2 b.passed in
      let done = after_replies keep first history b.mid b.rest e once.mid s stands.0 stands.1 passed e.query.asked (reply_data b.told) refl (b.frame ∙ is_framed b.told) b.replies in
      (done.0, done.1, kept done.0 done.2 once.kept)
    where
      kept : (jobs : List KnownJob) → AllStand keep jobs once.mid.jobs (held s) → KeepsWithin keep once.mid a ⊎ (a ≡ once.mid) → AllStand keep jobs a.jobs (held s)
      kept jobs stand (inl keeps) = stand_kept keep jobs once.mid a (held s) stand keeps
      kept jobs stand (inr same) = subst (λ (l : Ledger). AllStand keep jobs l.jobs (held s)) (sym same) stand

  -- the result that is told after a history
  pub tells_result : (keep : KeepLimits) (first : List KnownJob) (history : List HistoryEntry) (d : Ledger) (r : R) (e : HistoryEntry) (a : Ledger) (s : R) (number : ℕ) → Stands keep first history d r
      → AnswersOnce starts looks takes keep d r e a s → e.query.asked ≡ Ok (result number) → IsToldKnown keep first history number e
  tells_result keep first history d r e a s number stands once asks =
      let b = once.answered in
      let passed = after_passes keep stands.0 d r b.mid b.rest stands.2 b.passed in
      let is = reported_there starts looks takes b.mid b.rest number (reply_data b.told) once.mid s e.query.asked asks b.replies in
      record {
        known = stands.0;
        taken = stands.1;
        told = reply_data b.told;
        tells = b.frame ∙ is_framed b.told;
        is_result = subst (IsResultKnown keep stands.0 number) (sym is) (result_told keep stands.0 b.mid (held b.rest) number passed);
      }

  -- ---- whole histories

  module _ {S : Type 0} (answers : S → Query → List ℕ → S → Type 0) (desk : S → Ledger) (runner : S → R) (keeping : S → KeepLimits) (host : IsHost starts looks takes answers desk runner keeping)
      (begins : S → Type 0) (keep : KeepLimits) (first : List KnownJob) (fresh : (s : S) → begins s → (keeping s ≡ keep) × AllStand keep first (desk s).jobs (held (runner s))) where
    -- what an entry's answer does, within the limits of the whole history
    once_within : (s : S) (e : HistoryEntry) (t : S) → keeping s ≡ keep → answers s e.query e.reply t → (keeping t ≡ keep) × AnswersOnce starts looks takes keep (desk s) (runner s) e (desk t) (runner t)
    once_within s e t is answered =
        let now = host.once s e t answered in
        (now.0 ∙ is, subst (λ (k : KeepLimits). AnswersOnce starts looks takes k (desk s) (runner s) e (desk t) (runner t)) is now.1)

    pub history_stands : (history : List HistoryEntry) (s : S) → Replays answers begins history s → (keeping s ≡ keep) × Stands keep first history (desk s) (runner s)
    history_stands history s (nothing_replayed t begun) = let at = fresh t begun in (at.0, (first, none_yet, at.1))
    history_stands history s (one_replayed h t e u before answered) =
        let was = history_stands h t before in
        let now = once_within t e u was.0 answered in
        (now.0, after_answer keep first h (desk t) (runner t) e (desk u) (runner u) was.1 now.1)

    pub history_tells : (before after : List HistoryEntry) (e : HistoryEntry) (number : ℕ) (end : S) → Replays answers begins (before ++ e ∷ after) end
        → e.query.asked ≡ Ok (result number) → IsToldKnown keep first before number e
    history_tells before after e number end legal asks =
        let at = is_at starts looks takes answers desk runner keeping host begins before after e (before ++ e ∷ after) end legal refl in
        let was = history_stands before at.old at.legal in
        tells_result keep first before (desk at.old) (runner at.old) e (desk at.new) (runner at.new) number was.1 (once_within at.old e at.new was.0 at.answered).1 asks

-- nothing stands for nothing
pub none_stand : (keep : KeepLimits) (held : ℕ → Option AdmittedJob) (entries : List JobEntry) → entries ≡ [] → AllStand keep [] entries held
none_stand keep held entries none = subst (λ es. AllStand keep [] es held) (sym none) (record { count = refl; each = λ i entry job at there. absurd (nothing_at i entry at) })
  where
    nothing_at : (i : ℕ) (entry : JobEntry) → slice_get {X = JobEntry} [] i ≡ Some entry → ⊥
    nothing_at i entry at = cc
