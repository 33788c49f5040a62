-- A result comes from a submit before it, at a host whose jobs a pool holds.
use Rattle.accounts.specs.declared.keep_limits.KeepLimits.{KeepLimits}
use Rattle.std.proofs.Common.{◌≡◌, ◌+◌, ◌<◌, ◌^◌, ℕ, zero, suc, Bool, All, List, [], ◌∷◌, ◌++◌, length, slice_get, Option, Some, None, Result, Ok, refl, sym, ap, subst, ◌∙◌, ◌⊎◌, inl, inr, ◌-◌, arith}
use Rattle.std.proofs.lemmas.Option.{slice_get_within, get_or_from_slice_get}
use Rattle.serde_json.specs.Data.{Data}
use Rattle.job_core.specs.Admitted.{AdmittedJob}
use Rattle.sessions.specs.Grammar.{Asked, result}
use Rattle.sessions.specs.Replies.{submit_data}
use Rattle.shared_desk.specs.Histories.{HistoryEntry, by_any_passage}
use Rattle.credit_book.specs.declared.board.Progress.{Progress}
use Rattle.credit_book.specs.declared.book.Report.{Report}
use Rattle.job_pools.specs.declared.limited_runner.LimitedRunner.{LimitedRunner}
use Rattle.shared_desk.specs.ServerAsked.{AreAskedOfDesks}
use Rattle.shared_desk.proofs.AskedOfDesks.{asked_of_desks}
use Rattle.job_pools.specs.Started.{pooled_at, pooled_count}
use Rattle.job_pools.specs.Holds.{StartsBy, TellsBy, TakesBy}
use Rattle.job_pools.specs.Bounded.{starts_within, looks_within, takes_within}
use Rattle.job_server.specs.declared.bounds.Bounds.{Bounds}
use Rattle.job_server.specs.declared.fault.ServeFault.{ServeFault}
use Rattle.shared_desk.specs.declared.closed.ClosedConnection.{ClosedConnection}
use Rattle.shared_desk.specs.Closed.{AreClosed, IsServedWhole}
use Rattle.job_server.specs.Payloads.{IsEntryOf, ComesFromPayload}
use Rattle.job_server.specs.AtOnce.{Pool, Hosted, hosted_answers, new_host, IsServing}
use Rattle.job_server.specs.EndToEnd.{AreTaken, submit_of, none_yet, one_more, no_more, taken_at, IsSubmit, IsResultOf, reported, failed, not_over, forgotten, unknown, IsToldResult, IsResultFrame, ComesFromSubmit, IsHostHistory, AsksForJob, StaysTold, IsToldRefusal, HasReply}
use Rattle.streams.specs.Answering.{refused}
use Rattle.desk_journal.proofs.OpenLemmas.{get_pushed}
use Rattle.job_server.proofs.ListEnds.{joined_again}
use Rattle.job_server.proofs.HistoryStands.{history_stands, history_tells, none_stand}
use Rattle.job_server.proofs.HostAnswers.{keeping_host}
use Rattle.job_server.proofs.KnownJobs.{as_taken, as_told, taken_is}
use Rattle.job_server.proofs.StandsFor.{AllStand}
use Rattle.job_server.proofs.RefusedResults.{told_refusal}
use Rattle.job_server.proofs.RisingNumbers.{numbers_rise}
use Rattle.job_server.proofs.StaysOver.{results_stay}
use Rattle.job_server.proofs.CountsAside.{desk_entry}
use Rattle.job_server.proofs.WentOver.{is_entry_of}
use Rattle.job_server.proofs.LimitedHolds.{job_held, limited_holds}
use Rattle.job_server.proofs.ReplyFrames.{third, third_of_result, third_of_refused}

-- ---- the submit of a job

record IsThere (history : List HistoryEntry) (number : ℕ) (job : AdmittedJob) : Type 0 where
  earlier : List HistoryEntry
  asked : HistoryEntry
  between : List HistoryEntry
  is_before : history ≡ earlier ++ asked ∷ between
  is_submit : IsSubmit asked number job

later : (history : List HistoryEntry) (number : ℕ) (job : AdmittedJob) (e : HistoryEntry) → IsThere history number job → IsThere (history ++ e ∷ []) number job
later history number job e t = record {
  earlier = t.earlier;
  asked = t.asked;
  between = t.between ++ e ∷ [];
  is_before = ap (λ l. l ++ e ∷ []) t.is_before ∙ joined_again t.earlier t.asked t.between (e ∷ []);
  is_submit = t.is_submit;
}

submitted : (history : List HistoryEntry) (jobs : List AdmittedJob) → AreTaken history jobs → (i : ℕ) (job : AdmittedJob) → slice_get jobs i ≡ Some job → IsThere history (i + 1) job
submitted _ _ none_yet i job at = cc
submitted _ _ (no_more history jobs e before no_job) i job at = later history (i + 1) job e (submitted history jobs before i job at)
submitted _ _ (one_more history jobs e last before is_submit) i job at = by_place (λ was. later history (i + 1) job e (submitted history jobs before i job was)) (get_pushed jobs last i job at)
  where
    by_place : (slice_get jobs i ≡ Some job → IsThere (history ++ e ∷ []) (i + 1) job) → (slice_get jobs i ≡ Some job) ⊎ ((i ≡ length jobs) × (last ≡ job)) → IsThere (history ++ e ∷ []) (i + 1) job
    by_place there (inl was) = there was
    by_place there (inr new) = record {
      earlier = history;
      asked = e;
      between = [];
      is_before = refl;
      is_submit = subst (λ (t : ℕ × AdmittedJob). IsSubmit e (t.0 + 1) t.1) (λ k. (sym new.0 k, new.1 k)) is_submit;
    }

place_of : (history : List HistoryEntry) (jobs : List AdmittedJob) (number : ℕ) (job : AdmittedJob) → AreTaken history jobs → taken_at jobs number ≡ Some job → IsThere history number job
place_of history jobs zero job taken at = let clash : None ≡ Some job = at in cc
place_of history jobs (suc n) job taken at =
    let place : suc n - 1 + 1 ≡ suc n = omega arith in
    subst (λ (m : ℕ). IsThere history m job) place (submitted history jobs taken (suc n - 1) job (sym (taken_is jobs (suc n) (omega arith)) ∙ at))

-- ---- a result comes from its submit

pub no_result : (e : HistoryEntry) (code : ℕ) → IsResultFrame e.reply → HasReply e (refused code) → ⊥
no_result e code f tells =
    let clash : 98 ≡ 99 = sym (ap third f.frame ∙ third_of_result f.buffer f.returned f.spent f.tasks) ∙ ap third tells ∙ third_of_refused code None None in
    absurd (omega (arith, clash))

by_result : (keep : KeepLimits) (before : List HistoryEntry) (number : ℕ) (e : HistoryEntry) (jobs : List AdmittedJob) → AreTaken before jobs → IsResultFrame e.reply → (told : Data) → IsResultOf keep jobs number told → HasReply e told → ComesFromSubmit before number e
by_result keep before number e jobs taken f _ (failed job code at fails) tells = absurd (no_result e code f tells)
by_result keep before number e jobs taken f _ (not_over job at) tells = absurd (no_result e 77 f tells)
by_result keep before number e jobs taken f _ (forgotten job at may) tells = absurd (no_result e 76 f tells)
by_result keep before number e jobs taken f _ (unknown at) tells = absurd (no_result e 76 f tells)
by_result keep before number e jobs taken f _ (reported job report at run) tells =
    let there = place_of before jobs number job taken at in
    record {
      earlier = there.earlier;
      asked = there.asked;
      between = there.between;
      is_before = there.is_before;
      job = job;
      is_submit = there.is_submit;
      report = report;
      run = run;
      tells = tells;
    }

pub comes_from_submit : (keep : KeepLimits) (before : List HistoryEntry) (number : ℕ) (e : HistoryEntry) → IsToldResult keep before number e → IsResultFrame e.reply → ComesFromSubmit before number e
comes_from_submit keep before number e t f = by_result keep before number e t.jobs t.taken f t.told t.is_result t.tells

-- the report adds up to the credit that was asked
pub adds_up : (before : List HistoryEntry) (number : ℕ) (e : HistoryEntry) (r : ComesFromSubmit before number e) → r.report.spent + r.report.returned ≡ r.is_submit.credit
adds_up before number e r = r.run.final.whole ∙ r.is_submit.admitted.same_credit

-- ---- a host

abbrev pub starts_by : LimitedRunner Pool → ℕ → AdmittedJob → Result (Unit {0}) ℕ → LimitedRunner Pool → Type 0
starts_by = starts_within pooled_count (StartsBy pooled_at pooled_count)

abbrev pub looks_by : LimitedRunner Pool → ℕ → Progress → LimitedRunner Pool → Type 0
looks_by = looks_within (TellsBy pooled_at pooled_count)

abbrev pub takes_by : LimitedRunner Pool → Option (ℕ × Result Report ℕ) → LimitedRunner Pool → Type 0
takes_by = takes_within (TakesBy pooled_at pooled_count)

abbrev pub pooled_job : LimitedRunner Pool → ℕ → Option AdmittedJob
pooled_job = job_held pooled_at pooled_count

fresh_host : (bounds : Bounds) (first : Pool) (x : Hosted) → x ≡ new_host bounds first → (x.1.keep ≡ bounds.keep) × AllStand bounds.keep [] x.0.jobs (pooled_job x.1.runner)
fresh_host bounds first x is = (ap (λ (h : Hosted). h.1.keep) is, none_stand bounds.keep (pooled_job x.1.runner) x.0.jobs (ap (λ (h : Hosted). h.0.jobs) is))

pub host_tells : (bounds : Bounds) (before after : List HistoryEntry) (e : HistoryEntry) (number : ℕ) → IsHostHistory bounds (before ++ e ∷ after) → e.query.asked ≡ Ok (result number) → IsToldResult bounds.keep before number e
host_tells bounds before after e number h asks =
    as_told bounds.keep before number e
    (history_tells starts_by looks_by takes_by pooled_job (limited_holds pooled_at pooled_count) (by_any_passage hosted_answers) (λ s. s.0) (λ s. s.1.runner) (λ s. s.1.keep) (keeping_host starts_by looks_by takes_by)
    (λ s. s ≡ new_host bounds h.first) bounds.keep [] (fresh_host bounds h.first) before after e number h.end h.legal asks)

pub host_comes : (bounds : Bounds) (before after : List HistoryEntry) (e : HistoryEntry) (number : ℕ) → IsHostHistory bounds (before ++ e ∷ after) → e.query.asked ≡ Ok (result number) → IsResultFrame e.reply → ComesFromSubmit before number e
host_comes bounds before after e number h asks f = comes_from_submit bounds.keep before number e (host_tells bounds before after e number h asks) f

pub host_refuses : (bounds : Bounds) (before after : List HistoryEntry) (e : HistoryEntry) (number code : ℕ) → IsHostHistory bounds (before ++ e ∷ after) → e.query.asked ≡ Ok (result number) → HasReply e (refused code) → code < 2 ^ 64
    → IsToldRefusal bounds.keep before number code
host_refuses bounds before after e number code h asks tells small = told_refusal bounds.keep before number e code (host_tells bounds before after e number h asks) tells small

pub host_stays : (bounds : Bounds) (before between after : List HistoryEntry) (e f : HistoryEntry) (number : ℕ) → IsHostHistory bounds (before ++ e ∷ (between ++ f ∷ after)) → e.query.asked ≡ Ok (result number) → f.query.asked ≡ Ok (result number) → StaysTold e f
host_stays bounds before between after e f number h asks_e asks_f =
    results_stay starts_by looks_by takes_by (by_any_passage hosted_answers) (λ s. s.0) (λ s. s.1.runner) (λ s. s.1.keep) (keeping_host starts_by looks_by takes_by)
    (λ s. s ≡ new_host bounds h.first) before between after e f number h.end h.legal asks_e asks_f

pub host_rises : (bounds : Bounds) (before between after : List HistoryEntry) (e f : HistoryEntry) (m n : ℕ) → IsHostHistory bounds (before ++ e ∷ (between ++ f ∷ after)) → length (before ++ e ∷ between) < 2 ^ 64 - 1
    → AsksForJob e.query.asked → HasReply e (submit_data m) → m < 2 ^ 64 → AsksForJob f.query.asked → HasReply f (submit_data n) → n < 2 ^ 64 → m < n
host_rises bounds before between after e f m n h short asks_e tells_e small_m asks_f tells_f small_n =
    let stands = history_stands starts_by looks_by takes_by pooled_job (limited_holds pooled_at pooled_count) (by_any_passage hosted_answers) (λ s. s.0) (λ s. s.1.runner) (λ s. s.1.keep) (keeping_host starts_by looks_by takes_by)
    (λ s. s ≡ new_host bounds h.first) bounds.keep [] (fresh_host bounds h.first) (before ++ e ∷ (between ++ f ∷ after)) h.end h.legal in
    let jobs = as_taken (before ++ e ∷ (between ++ f ∷ after)) stands.1.0 stands.1.1 in
    numbers_rise before between after e f jobs.jobs m n jobs.taken short asks_e tells_e small_m asks_f tells_f small_n

-- ---- a server of many connections

-- what its desk was asked
past_counts : (bounds : Bounds) (sessions : ℕ) (may_stop : Bool) (outcome : Result (Unit {0}) ServeFault) (s : IsServing bounds sessions may_stop outcome)
    → (plain : List HistoryEntry) × AreAskedOfDesks s.serving.history plain × IsHostHistory bounds plain
past_counts bounds sessions may_stop outcome s =
    let r = asked_of_desks (by_any_passage hosted_answers) (λ x. x ≡ new_host bounds s.first) s.serving.history s.end s.serving.legal in
    (r.0, r.1, record { first = s.first; end = s.end; legal = r.2 })

pub each_served : (closed : List ClosedConnection) → All IsServedWhole closed → (i : ℕ) (c : ClosedConnection) → slice_get closed i ≡ Some c → IsServedWhole c
each_served closed served i c at = subst IsServedWhole (get_or_from_slice_get closed i c c at) (served i c (slice_get_within closed i c at))

module _ (bounds : Bounds) (sessions : ℕ) (may_stop : Bool) (outcome : Result (Unit {0}) ServeFault) (s : IsServing bounds sessions may_stop outcome) (plain : List HistoryEntry) (are : AreAskedOfDesks s.serving.history plain)
    (host : IsHostHistory bounds plain) where
  host_entries : (before after : List HistoryEntry) (e : HistoryEntry) (asks : Asked) → plain ≡ before ++ e ∷ after → e.query.asked ≡ Ok asks → IsEntryOf s.serving.closed e asks
  host_entries before after e asks is own =
      let t = desk_entry s.serving.history plain e asks are (record { before = before; after = after; is = is }) own in
      is_entry_of s.serving.opened t.before t.after e s.serving.closed asks (subst (λ h. AreClosed s.serving.opened h s.serving.closed) t.is s.serving.parts) (each_served s.serving.closed s.serving.served) own

  host_payload : (before after : List HistoryEntry) (e : HistoryEntry) (number : ℕ) → plain ≡ before ++ e ∷ after → e.query.asked ≡ Ok (result number) → IsResultFrame e.reply → ComesFromPayload s.serving.closed before number e
  host_payload before after e number is asks f = record {
    comes = comes;
    submitted = host_entries comes.earlier (comes.between ++ e ∷ after) comes.asked
        (submit_of comes.is_submit.name comes.is_submit.programs comes.is_submit.credit comes.is_submit.buffer)
        (is ∙ ap (λ l. l ++ e ∷ after) comes.is_before ∙ joined_again comes.earlier comes.asked comes.between (e ∷ after)) comes.is_submit.asks;
    told = host_entries before after e (result number) is asks;
  }
    where
      comes : ComesFromSubmit before number e
      comes = host_comes bounds before after e number (subst (IsHostHistory bounds) is host) asks f

pub host_payloads : (bounds : Bounds) (sessions : ℕ) (may_stop : Bool) (outcome : Result (Unit {0}) ServeFault) (s : IsServing bounds sessions may_stop outcome)
    → (plain : List HistoryEntry) × AreAskedOfDesks s.serving.history plain × IsHostHistory bounds plain
    × ((before after : List HistoryEntry) (e : HistoryEntry) (number : ℕ) → plain ≡ before ++ e ∷ after → e.query.asked ≡ Ok (result number) → IsResultFrame e.reply → ComesFromPayload s.serving.closed before number e)
host_payloads bounds sessions may_stop outcome s =
    let r = past_counts bounds sessions may_stop outcome s in
    (r.0, r.1, r.2, host_payload bounds sessions may_stop outcome s r.0 r.1 r.2)
