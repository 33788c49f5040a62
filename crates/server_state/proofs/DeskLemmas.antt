-- A desk's replies by the runner of all jobs, and by the runner as the desk sees it.
use Rattle.std.proofs.Common.{◌≡◌, ◌≢◌, ℕ, List, length, Option, Some, None, Result, Ok, Err, refl, sym, subst, inl, inr}
use Rattle.job_core.specs.declared.admission.ProgramBytes.{ProgramBytes}
use Rattle.accounts.specs.Ledgers.{Ledger}
use Rattle.accounts.specs.declared.keep_limits.KeepLimits.{KeepLimits}
use Rattle.serde_json.specs.Data.{Data}
use Rattle.sessions.specs.Grammar.{Asked, grant, account, submit, status, result}
use Rattle.sessions.specs.JobKeys.{job_among}
use Rattle.sessions.specs.Replies.{reply_data}
use Rattle.streams.specs.Answering as plainly
use Rattle.server_state.specs.States.{DeskState, JobsSteps, id_at, starting_to}
use Rattle.server_state.specs.Queries.{Query, plain, keyed, jobs, counts}
use Rattle.server_state.specs.Desks.{DeskReplies, RepliesByKey, RepliesOrRefuses, RepliesPlainly, looks_at, starts_at}
use Rattle.server_state.specs.Alone.{Others, no_step, one_start, one_look, seen_by_desk}

module _ {R : Type 0} (m : JobsSteps R) (place : ℕ) (outcome : Result (Unit {0}) ℕ) where
  -- the runner of all jobs, and as the desk sees it, whose starts come to this
  abbrev ours : JobsSteps R
  ours = starting_to outcome m

  abbrev seen : JobsSteps R
  seen = starting_to outcome (seen_by_desk m place)

  same_runner : (left r s : R) → Others m place left r → s ≡ r → Others m place left s
  same_runner left r s others is = subst (Others m place left) (sym is) others

  -- ---- what a desk is told by the runner of all jobs, it is told by the one that it sees

  submits_alone : (d : Ledger) (left r : R) (name : List ℕ) (programs : List ProgramBytes) (credit : ℕ) (buffer : List ℕ) (told : Data) (e : Ledger) (s : R) → Others m place left r
      → plainly.Submits (starts_at ours place) d r name programs credit buffer told e s
      → (q : R) × plainly.Submits (starts_at seen 0) d left name programs credit buffer told e q × Others m place q s
  submits_alone d left r name programs credit buffer told e s others (inl t) = (
    s,
    inl (record {
      mid = t.mid;
      takes = t.takes;
      job = t.job;
      admitted = t.admitted;
      outcome = t.outcome;
      starts_job = ((r, others, t.starts_job.0), t.starts_job.1);
      settles = t.settles;
      tells = t.tells;
    }),
    no_step,
  )
  submits_alone d left r name programs credit buffer told e s others (inr n) = (
    left,
    inr (record { fault = n.fault; why = n.why; same = n.same; same_runner = refl; tells = n.tells }),
    same_runner left r s others n.same_runner,
  )

  asked_alone : (d : Ledger) (left r : R) (asked : Asked) (told : Data) (e : Ledger) (s : R) → Others m place left r
      → plainly.Replies (starts_at ours place) (looks_at ours place) d r (Ok asked) told e s
      → (q : R) × plainly.Replies (starts_at seen 0) (looks_at seen 0) d left (Ok asked) told e q × Others m place q s
  unfolding plainly.Replies
  asked_alone d left r (grant name amount) told e s others t = (left, (t.0, refl), same_runner left r s others t.1)
  asked_alone d left r (account name) told e s others t = (left, (t.0, t.1, refl), same_runner left r s others t.2)
  asked_alone d left r (submit name order) told e s others t =
      let a = submits_alone d left r name t.0 order.credit order.buffer told e s others t.2 in (a.0, (t.0, t.1, a.1), a.2)
  asked_alone d left r (status number) told e s others t = (s, (t.0, (r, others, t.1), t.2, t.3), no_step)
  asked_alone d left r (result number) told e s others t = (left, (t.0, t.1, refl), same_runner left r s others t.2)

  plainly_alone : (keep : KeepLimits) (d : Ledger) (left r : R) (asked : Asked) (frame : List ℕ) (e : Ledger) (s : R) → Others m place left r
      → RepliesPlainly ours place keep d r asked frame e s → (q : R) × RepliesPlainly seen 0 keep d left asked frame e q × Others m place q s
  plainly_alone keep d left r asked frame e s others t =
      let a = asked_alone d left r asked (reply_data t.told) t.mid s others t.replies in (
        a.0,
        record { mid = t.mid; told = t.told; replies = a.1; is = t.is; keeps = t.keeps },
        a.2,
      )

  unchanged_alone : (d : DeskState) (left r : R) (is : Type 0) (e : DeskState) (s : R) → Others m place left r → is × (e ≡ d) × (s ≡ r) → (q : R) × (is × (e ≡ d) × (q ≡ left)) × Others m place q s
  unchanged_alone d left r is e s others t = (left, (t.0, t.1, refl), same_runner left r s others t.2)

  request_alone : (keep : KeepLimits) (d : DeskState) (left r : R) (asked : Result Asked ℕ) (frame : List ℕ) (e : DeskState) (s : R) → Others m place left r
      → RepliesOrRefuses ours place keep d r asked frame e s → (q : R) × RepliesOrRefuses seen 0 keep d left asked frame e q × Others m place q s
  request_alone keep d left r (Ok asked) frame e s others t =
      let a = plainly_alone keep d.ledger left r asked frame e.ledger s others t.0 in (a.0, (a.1, t.1), a.2)
  request_alone keep d left r (Err code) frame e s others t = (left, (t.0, t.1, refl), same_runner left r s others t.2)

  by_key_alone : (keep : KeepLimits) (known : Option ℕ) (d : DeskState) (left r : R) (key : List ℕ) (asked : Result Asked ℕ) (frame : List ℕ) (e : DeskState) (s : R) → Others m place left r
      → RepliesByKey ours place keep known d r key asked frame e s → (q : R) × RepliesByKey seen 0 keep known d left key asked frame e q × Others m place q s
  by_key_alone keep (Some job) d left r key asked frame e s others t = (left, (t.0, t.1, refl), same_runner left r s others t.2)
  by_key_alone keep None d left r key (Err code) frame e s others t = (left, (t.0, t.1, refl), same_runner left r s others t.2)
  by_key_alone keep None d left r key (Ok asked) frame e s others t =
      let a = plainly_alone keep d.ledger left r asked frame e.ledger s others t.0 in (a.0, (a.1, t.1), a.2)

  pub replies_alone : (keep : KeepLimits) (d : DeskState) (left r : R) (query : Query) (frame : List ℕ) (e : DeskState) (s : R) → Others m place left r
      → DeskReplies ours place keep d r query frame e s → (q : R) × DeskReplies seen 0 keep d left query frame e q × Others m place q s
  unfolding DeskReplies
  replies_alone keep d left r (plain asked) frame e s others t = request_alone keep d left r asked frame e s others t
  replies_alone keep d left r (keyed None asked) frame e s others t = (left, (t.0, t.1, refl), same_runner left r s others t.2)
  replies_alone keep d left r (keyed (Some key) asked) frame e s others t = by_key_alone keep (job_among d.keys key) d left r key asked frame e s others t
  replies_alone keep d left r (jobs from) frame e s others t = (left, (t.0, t.1, refl), same_runner left r s others t.2)
  replies_alone keep d left r (counts stops) frame e s others t = absurd t

  -- ---- what other desks are told is a step for others

  module _ (k : ℕ) (apart : k ≢ place) where
    asked_apart : (d : Ledger) (left r : R) (asked : Asked) (told : Data) (e : Ledger) (s : R) → Others m place left r
        → plainly.Replies (starts_at ours k) (looks_at ours k) d r (Ok asked) told e s → Others m place left s
    unfolding plainly.Replies
    asked_apart d left r (grant name amount) told e s others t = same_runner left r s others t.1
    asked_apart d left r (account name) told e s others t = same_runner left r s others t.2
    asked_apart d left r (submit name order) told e s others t = elim t.2 [
      | inl u ↦ one_start r s (id_at k (length u.mid.jobs)) u.job u.outcome others apart u.starts_job.0
      | inr n ↦ same_runner left r s others n.same_runner
    ]
    asked_apart d left r (status number) told e s others t = one_look r s (id_at k number) t.0 others apart t.1
    asked_apart d left r (result number) told e s others t = same_runner left r s others t.2

    plainly_apart : (keep : KeepLimits) (d : Ledger) (left r : R) (asked : Asked) (frame : List ℕ) (e : Ledger) (s : R) → Others m place left r
        → RepliesPlainly ours k keep d r asked frame e s → Others m place left s
    plainly_apart keep d left r asked frame e s others t = asked_apart d left r asked (reply_data t.told) t.mid s others t.replies

    request_apart : (keep : KeepLimits) (d : DeskState) (left r : R) (asked : Result Asked ℕ) (frame : List ℕ) (e : DeskState) (s : R) → Others m place left r
        → RepliesOrRefuses ours k keep d r asked frame e s → Others m place left s
    request_apart keep d left r (Ok asked) frame e s others t = plainly_apart keep d.ledger left r asked frame e.ledger s others t.0
    request_apart keep d left r (Err code) frame e s others t = same_runner left r s others t.2

    by_key_apart : (keep : KeepLimits) (known : Option ℕ) (d : DeskState) (left r : R) (key : List ℕ) (asked : Result Asked ℕ) (frame : List ℕ) (e : DeskState) (s : R) → Others m place left r
        → RepliesByKey ours k keep known d r key asked frame e s → Others m place left s
    by_key_apart keep (Some job) d left r key asked frame e s others t = same_runner left r s others t.2
    by_key_apart keep None d left r key (Err code) frame e s others t = same_runner left r s others t.2
    by_key_apart keep None d left r key (Ok asked) frame e s others t = plainly_apart keep d.ledger left r asked frame e.ledger s others t.0

    pub replies_apart : (keep : KeepLimits) (d : DeskState) (left r : R) (query : Query) (frame : List ℕ) (e : DeskState) (s : R) → Others m place left r
        → DeskReplies ours k keep d r query frame e s → Others m place left s
    unfolding DeskReplies
    replies_apart keep d left r (plain asked) frame e s others t = request_apart keep d left r asked frame e s others t
    replies_apart keep d left r (keyed None asked) frame e s others t = same_runner left r s others t.2
    replies_apart keep d left r (keyed (Some key) asked) frame e s others t = by_key_apart keep (job_among d.keys key) d left r key asked frame e s others t
    replies_apart keep d left r (jobs from) frame e s others t = same_runner left r s others t.2
    replies_apart keep d left r (counts stops) frame e s others t = absurd t
