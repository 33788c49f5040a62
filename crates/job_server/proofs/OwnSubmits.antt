-- A tenant's result comes from a submit of its own before it.
use Rattle.std.proofs.Common.{◌≡◌, ◌≤◌, ◌<◌, ◌-◌, ◌^◌, ℕ, zero, suc, List, [], ◌∷◌, ◌++◌, length, slice_get, Option, Some, Result, Ok, refl, ap, subst, ◌∙◌, arith}
use Rattle.credit_book.specs.declared.book.Report.{Report}
use Rattle.credit_book.specs.declared.board.Progress.{Progress}
use Rattle.job_core.specs.Admitted.{AdmittedJob}
use Rattle.accounts.specs.declared.keep_limits.KeepLimits.{KeepLimits}
use Rattle.accounts.specs.Ledgers.{Ledger}
use Rattle.sessions.specs.Grammar.{result}
use Rattle.sessions.specs.Replies.{submit_data}
use Rattle.streams.specs.Answering.{refused}
use Rattle.shared_desk.specs.Histories.{HistoryEntry, Query, Replays, by_any_passage, none_yet, one_more}
use Rattle.tenant_desks.specs.Alone.{sent_to}
use Rattle.tenant_desks.proofs.SeenLemmas.{plain_part}
use Rattle.tenant_desks.specs.Seen.{starts_seen, looks_seen, takes_seen, answers_seen}
use Rattle.job_pools.specs.declared.limited_runner.LimitedRunner.{LimitedRunner}
use Rattle.job_pools.specs.LineBounded.{starts_by_line, looks_by_line, takes_by_line}
use Rattle.job_pools.specs.declared.line_limited_runner.LineLimitedRunner.{LineLimitedRunner}
use Rattle.job_pools.specs.Started.{pooled_at, pooled_count}
use Rattle.job_pools.specs.Holds.{StartsBy, TellsBy, TakesBy}
use Rattle.job_pools.specs.Bounded.{starts_within, looks_within, takes_within}
use Rattle.job_server.specs.declared.keeping_handler.KeepingHandler.{KeepingHandler}
use Rattle.job_server.specs.Kept.{answers_keeping}
use Rattle.job_server.specs.AtOnce.{Pool}
use Rattle.job_server.specs.EndToEnd.{AsksForJob, ComesFromSubmit, HasReply, IsResultFrame, IsToldRefusal, IsToldResult, StaysTold}
use Rattle.job_server.specs.TenantResults.{IsTenantHostHistory}
use Rattle.job_server.proofs.FromSubmit.{comes_from_submit}
use Rattle.job_server.proofs.HistoryStands.{HoldsJobs, history_stands, history_tells, none_stand}
use Rattle.job_server.proofs.HostAnswers.{IsHost, keeping_host}
use Rattle.job_server.proofs.KnownJobs.{as_taken, as_told}
use Rattle.job_server.proofs.StandsFor.{AllStand}
use Rattle.job_server.proofs.LimitedHolds.{job_held, limited_holds, lines_hold}
use Rattle.job_server.proofs.RefusedResults.{told_refusal}
use Rattle.job_server.proofs.RisingNumbers.{numbers_rise}
use Rattle.job_server.proofs.SeenHolds.{held_seen, seen_holds}
use Rattle.job_server.proofs.StaysOver.{results_stay}

-- ---- a plain desk that forgets, as a desk and a handler that keeps the last jobs

-- such a desk begins with one of these states, and within the limits
abbrev pub Begins : {R : Type 0} → (Ledger × R → Type 0) → KeepLimits → Ledger × KeepingHandler R → Type 0
Begins begins keep x = begins (x.0, x.1.runner) × (x.1.keep ≡ keep)

module _ {R : Type 0} (starts : R → ℕ → AdmittedJob → Result (Unit {0}) ℕ → R → Type 0) (looks : R → ℕ → Progress → R → Type 0) (takes : R → Option (ℕ × Result Report ℕ) → R → Type 0) (place : ℕ) (begins : Ledger × R → Type 0) (keep : KeepLimits) where
  pub as_kept : (history : List HistoryEntry) (s : Ledger × R) → Replays (answers_seen starts looks takes place keep) begins history s
      → Replays (by_any_passage (answers_keeping (starts_seen starts looks takes place) (looks_seen starts looks takes place) (takes_seen starts looks takes place))) (Begins begins keep) history (s.0, record { runner = s.1; keep = keep })
  as_kept history s (none_yet t begun) = none_yet (s.0, record { runner = s.1; keep = keep }) (begun, refl)
  as_kept history s (one_more h t e u before answered) =
      one_more h (t.0, record { runner = t.1; keep = keep }) e (s.0, record { runner = s.1; keep = keep }) (as_kept h t before) ((answered.0, answered.1, answered.2), refl)

jobless_begins : {R : Type 0} (begun : Ledger) (keep : KeepLimits) (held : ℕ → Option AdmittedJob) → begun.jobs ≡ [] → (x : Ledger × KeepingHandler R) → Begins {R = R} (λ s. s.0 ≡ begun) keep x → (x.1.keep ≡ keep) × AllStand keep [] x.0.jobs held
jobless_begins begun keep held none x begins = (begins.1, none_stand keep held x.0.jobs (ap (λ (d : Ledger). d.jobs) begins.0 ∙ none))

at_place : (xs : List Ledger) (i : ℕ) → i < length xs → (x : Ledger) × (slice_get xs i ≡ Some x)
at_place [] i lt = absurd (omega (arith, lt))
at_place (x ∷ xs) zero lt = (x, refl)
at_place (x ∷ xs) (suc i) lt = at_place xs i (omega (arith, lt))

-- ---- a host of tenants

abbrev pub Runner : Type 0
Runner = LineLimitedRunner (LimitedRunner Pool)

abbrev pub starts_by : Runner → ℕ → AdmittedJob → Result (Unit {0}) ℕ → Runner → Type 0
starts_by = starts_by_line (starts_within pooled_count (StartsBy pooled_at pooled_count))

abbrev pub looks_by : Runner → ℕ → Progress → Runner → Type 0
looks_by = looks_by_line (looks_within (TellsBy pooled_at pooled_count))

abbrev pub takes_by : Runner → Option (ℕ × Result Report ℕ) → Runner → Type 0
takes_by = takes_by_line (takes_within (TakesBy pooled_at pooled_count))

-- the job that is held under a number
abbrev pub held_by : Runner → ℕ → Option AdmittedJob
held_by r n = job_held pooled_at pooled_count r.runner n

pub holds_by : HoldsJobs starts_by looks_by takes_by held_by
holds_by =
    lines_hold (starts_within pooled_count (StartsBy pooled_at pooled_count)) (looks_within (TellsBy pooled_at pooled_count)) (takes_within (TakesBy pooled_at pooled_count))
    (job_held pooled_at pooled_count) (limited_holds pooled_at pooled_count)

-- a tenant's part is legal
part : (keep : KeepLimits) (place : ℕ) (names : List (List ℕ)) (history : List HistoryEntry) (h : IsTenantHostHistory keep names history) (begun : Ledger) → slice_get h.firsts place ≡ Some begun
    → (s : Ledger × Runner) × Replays (answers_seen starts_by looks_by takes_by place keep) (λ x. x.0 ≡ begun) (sent_to names place history) s
part keep place names history h begun at =
    let few = h.few in let many = h.as_many in
    plain_part starts_by looks_by takes_by place h.firsts begun names keep history h.end (omega (arith, few, many)) at h.legal

module _ (keep : KeepLimits) (place : ℕ) (names : List (List ℕ)) (history : List HistoryEntry) (h : IsTenantHostHistory keep names history) (there : place ≤ length names) where
  -- the desk that the tenant begins with
  abbrev own : (d : Ledger) × (slice_get h.firsts place ≡ Some d)
  own = let many = h.as_many in at_place h.firsts place (omega (arith, there, many))

  small : place < 1000
  small = let few = h.few in omega (arith, there, few)

  begins : (x : Ledger × KeepingHandler Runner) → Begins {R = Runner} (λ s. s.0 ≡ own.0) keep x → (x.1.keep ≡ keep) × AllStand keep [] x.0.jobs (held_seen starts_by looks_by takes_by held_by holds_by place small x.1.runner)
  begins x = jobless_begins own.0 keep (held_seen starts_by looks_by takes_by held_by holds_by place small x.1.runner) (h.no_job place own.0 own.1) x

  abbrev own_answers : Ledger × KeepingHandler Runner → Query → List ℕ → Ledger × KeepingHandler Runner → Type 0
  own_answers = by_any_passage (answers_keeping (starts_seen starts_by looks_by takes_by place) (looks_seen starts_by looks_by takes_by place) (takes_seen starts_by looks_by takes_by place))

  own_host : IsHost (starts_seen starts_by looks_by takes_by place) (looks_seen starts_by looks_by takes_by place) (takes_seen starts_by looks_by takes_by place) own_answers (λ s. s.0) (λ s. s.1.runner) (λ s. s.1.keep)
  own_host = keeping_host (starts_seen starts_by looks_by takes_by place) (looks_seen starts_by looks_by takes_by place) (takes_seen starts_by looks_by takes_by place)

  state : Ledger × KeepingHandler Runner
  state = let p = part keep place names history h own.0 own.1 in (p.0.0, record { runner = p.0.1; keep = keep })

  legal : (entries : List HistoryEntry) → sent_to names place history ≡ entries
      → Replays (by_any_passage (answers_keeping (starts_seen starts_by looks_by takes_by place) (looks_seen starts_by looks_by takes_by place) (takes_seen starts_by looks_by takes_by place))) (Begins {R = Runner} (λ s. s.0 ≡ own.0) keep) entries state
  unfolding state
  legal entries is =
      let p = part keep place names history h own.0 own.1 in
      subst (λ l. Replays (by_any_passage (answers_keeping (starts_seen starts_by looks_by takes_by place) (looks_seen starts_by looks_by takes_by place) (takes_seen starts_by looks_by takes_by place))) (Begins {R = Runner} (λ s. s.0 ≡ own.0) keep) l state) is
      (as_kept starts_by looks_by takes_by place (λ s. s.0 ≡ own.0) keep (sent_to names place history) p.0 p.1)

  pub own_tells : (before after : List HistoryEntry) (e : HistoryEntry) (number : ℕ) → sent_to names place history ≡ before ++ e ∷ after → e.query.asked ≡ Ok (result number) → IsToldResult keep before number e
  own_tells before after e number is asks =
      as_told keep before number e
      (history_tells (starts_seen starts_by looks_by takes_by place) (looks_seen starts_by looks_by takes_by place) (takes_seen starts_by looks_by takes_by place)
      (held_seen starts_by looks_by takes_by held_by holds_by place small)
      (seen_holds starts_by looks_by takes_by held_by holds_by place small) own_answers (λ s. s.0) (λ s. s.1.runner) (λ s. s.1.keep) own_host (Begins {R = Runner} (λ s. s.0 ≡ own.0) keep) keep [] begins before after e number state
      (legal (before ++ e ∷ after) is) asks)

  pub own_stays : (before between after : List HistoryEntry) (e f : HistoryEntry) (number : ℕ) → sent_to names place history ≡ before ++ e ∷ (between ++ f ∷ after) → e.query.asked ≡ Ok (result number) → f.query.asked ≡ Ok (result number)
      → StaysTold e f
  own_stays before between after e f number is asks_e asks_f =
      results_stay (starts_seen starts_by looks_by takes_by place) (looks_seen starts_by looks_by takes_by place) (takes_seen starts_by looks_by takes_by place) own_answers (λ s. s.0) (λ s. s.1.runner) (λ s. s.1.keep) own_host (Begins {R = Runner} (λ s. s.0 ≡ own.0) keep) before between after e f number state
      (legal (before ++ e ∷ (between ++ f ∷ after)) is) asks_e asks_f

  pub own_rises : (before between after : List HistoryEntry) (e f : HistoryEntry) (m n : ℕ) → sent_to names place history ≡ before ++ e ∷ (between ++ f ∷ after) → length (before ++ e ∷ between) < 2 ^ 64 - 1
      → AsksForJob e.query.asked → HasReply e (submit_data m) → m < 2 ^ 64 → AsksForJob f.query.asked → HasReply f (submit_data n) → n < 2 ^ 64 → m < n
  own_rises before between after e f m n is short asks_e tells_e small_m asks_f tells_f small_n =
      let stands = history_stands (starts_seen starts_by looks_by takes_by place) (looks_seen starts_by looks_by takes_by place) (takes_seen starts_by looks_by takes_by place)
      (held_seen starts_by looks_by takes_by held_by holds_by place small)
      (seen_holds starts_by looks_by takes_by held_by holds_by place small) own_answers (λ s. s.0) (λ s. s.1.runner) (λ s. s.1.keep) own_host (Begins {R = Runner} (λ s. s.0 ≡ own.0) keep) keep [] begins
      (before ++ e ∷ (between ++ f ∷ after)) state (legal (before ++ e ∷ (between ++ f ∷ after)) is) in
      let jobs = as_taken (before ++ e ∷ (between ++ f ∷ after)) stands.1.0 stands.1.1 in
      numbers_rise before between after e f jobs.jobs m n jobs.taken short asks_e tells_e small_m asks_f tells_f small_n

  pub own_comes : (before after : List HistoryEntry) (e : HistoryEntry) (number : ℕ) → sent_to names place history ≡ before ++ e ∷ after → e.query.asked ≡ Ok (result number) → IsResultFrame e.reply → ComesFromSubmit before number e
  own_comes before after e number is asks f = comes_from_submit keep before number e (own_tells before after e number is asks) f

  pub own_refuses : (before after : List HistoryEntry) (e : HistoryEntry) (number code : ℕ) → sent_to names place history ≡ before ++ e ∷ after → e.query.asked ≡ Ok (result number) → HasReply e (refused code) → code < 2 ^ 64
      → IsToldRefusal keep before number code
  own_refuses before after e number code is asks tells small_code = told_refusal keep before number e code (own_tells before after e number is asks) tells small_code
