-- Each event of a desk takes one job or none, and the jobs that are known are as many as the desk has.
use Rattle.std.proofs.Common.{◌≡◌, ◌⊎◌, ◌+◌, ◌==◌, ℕ, Bool, true, false, List, [], ◌∷◌, ◌++◌, length, nat_lt, if◌then◌else◌, Option, Some, None, Result, Ok, Err, refl, sym, ap, subst, ◌∙◌, inl, inr}
use Rattle.credit_book.specs.declared.board.Progress.{Progress}
use Rattle.credit_book.specs.declared.book.Report.{Report}
use Rattle.job_core.specs.declared.admission.ProgramBytes.{ProgramBytes}
use Rattle.accounts.specs.Ledgers.{Ledger, KeepsWithin}
use Rattle.accounts.specs.declared.keep_limits.KeepLimits.{KeepLimits}
use Rattle.sessions.specs.Grammar.{Asked, JobText, grant, account, submit, status, result}
use Rattle.sessions.specs.JobKeys.{job_among}
use Rattle.sessions.specs.Replies.{frame_or_refusal, reply_data, submit_data}
use Rattle.sessions.specs.declared.job_key.KeyedJob.{KeyedJob}
use Rattle.sessions.specs.declared.reply.Reply.TheVariants as reply
use Rattle.serde_json.specs.Data.{Data}
use Rattle.streams.specs.Answering as plainly
use Rattle.streams.specs.Answering.{Grants, GrantsNone}
use Rattle.server_state.specs.declared.access.Access.{Access}
use Rattle.server_state.specs.declared.job_id.JobId.{JobId}
use Rattle.server_state.specs.Answering.{NotesEnd}
use Rattle.server_state.specs.Desks.{DeskReplies, RepliesByKey, RepliesPlainly, refusal_frame, starts_at, submit_frame}
use Rattle.server_state.specs.Histories.{ServerEvent, was_asked, has_ended}
use Rattle.server_state.specs.Keyed.{event_key, frame_of_event}
use Rattle.server_state.specs.Queries.{Destination, Query, counts, desk_at, desk_query, goes, jobs, keyed, own_submit, plain, refused_by, tenant_place}
use Rattle.server_state.specs.Results.{AreKnown, IsSubmit, IsSubmitRefusal, Itself, KnownJob, QueriesJob, RequestsJob, SendsAgain, TakesNoJob, no_more, one_again, one_more, with_key}
use Rattle.server_state.specs.States.{DeskState, JobsSteps, id_at, starting_to}
use Rattle.server_state.proofs.KeyedLemmas.{Keyed, after_answer as keyed_answer, finished, key_aside, no_more as no_more_keys, settled_count, with_key as has_key}
use Rattle.streams.specs.Passing.{Notes}
use Rattle.server_state.proofs.ListEnds.{length_pushed}
use Rattle.server_state.proofs.Moments.{IsAsideAt}
use Rattle.server_state.proofs.StayLemmas.{framed}

-- ---- what goes to no desk takes no job

abbrev apart_if : Bool → ℕ → Destination
apart_if b place = if b then refused_by 74 else desk_at place

abbrev placed_if : Bool → ℕ → Destination
placed_if b place = if b then desk_at place else refused_by 74

module _ (frame : List ℕ) where
  refused_apart : (b : Bool) (place : ℕ) (to : Destination) → apart_if b place ≡ to → IsAsideAt to frame → IsSubmitRefusal frame
  refused_apart true place to is aside = let own : frame ≡ refusal_frame 74 = subst (λ (o : Destination). IsAsideAt o frame) (sym is) aside in inr (inr own)
  refused_apart false place to is aside = absurd (subst (λ (o : Destination). IsAsideAt o frame) (sym is) aside)

  refused_placed : (b : Bool) (place : ℕ) (to : Destination) → placed_if b place ≡ to → IsAsideAt to frame → IsSubmitRefusal frame
  refused_placed false place to is aside = let own : frame ≡ refusal_frame 74 = subst (λ (o : Destination). IsAsideAt o frame) (sym is) aside in inr (inr own)
  refused_placed true place to is aside = absurd (subst (λ (o : Destination). IsAsideAt o frame) (sym is) aside)

  aside_plainly : (access : Access) (asked : Result Asked ℕ) (to : Destination) → goes [] access (plain asked) ≡ to → IsAsideAt to frame → (RequestsJob asked → ⊥) ⊎ IsSubmitRefusal frame
  aside_plainly access (Err code) to is aside = inl (λ h. h)
  aside_plainly access (Ok (grant name amount)) to is aside = inl (λ h. h)
  aside_plainly access (Ok (account name)) to is aside = inl (λ h. h)
  aside_plainly access (Ok (status number)) to is aside = inl (λ h. h)
  aside_plainly access (Ok (result number)) to is aside = inl (λ h. h)
  aside_plainly access (Ok (submit name job)) to is aside = inr (refused_placed (tenant_place [] name == access.desk) (tenant_place [] name) to is aside)

  aside_none : (access : Access) (query : Query) (to : Destination) → goes [] access query ≡ to → IsAsideAt to frame → (QueriesJob (Some query) → ⊥) ⊎ IsSubmitRefusal frame
  aside_none access (plain asked) to is aside = aside_plainly access asked to is aside
  aside_none access (keyed key asked) to is aside = inr (refused_apart (nat_lt 0 access.desk) access.desk to is aside)
  aside_none access (jobs from) to is aside = inl (λ h. h)
  aside_none access (counts stops) to is aside = inl (λ h. h)

pub aside_takes_none : (connection : ℕ) (access : Access) (query : Query) (frame : List ℕ) (started : Result (Unit {0}) ℕ) (to : Destination) → goes [] access query ≡ to → IsAsideAt to frame → TakesNoJob (was_asked connection access query frame started)
aside_takes_none connection access query frame started to is aside = aside_none frame access query to is aside

-- ---- one answer of the desk

-- a key that the desk remembers, and the number of its job is sent
pub record IsAgain (d : DeskState) (x : ServerEvent) : Type 0 where
  pub key : List ℕ
  pub has : event_key x ≡ Some key
  pub number : ℕ
  pub known : job_among d.keys key ≡ Some number
  pub sent : frame_of_event x ≡ submit_frame number

module _ {R : Type 0} (m : JobsSteps R) (keep : KeepLimits) where
  -- no job is taken: some may be forgotten, and the runner may be looked at
  pub record KeepsJobs (d : Ledger) (r : R) (e : Ledger) (s : R) : Type 0 where
    pub mid : Ledger
    pub jobs : mid.jobs ≡ d.jobs
    pub keeps : KeepsWithin keep mid e ⊎ (e ≡ mid)
    pub runner : (s ≡ r) ⊎ ((number : ℕ) × (seen : Progress) × m.looks r (id_at 0 number) seen s)

  -- one is, and its number is sent
  pub record TakesOne (d : Ledger) (r : R) (x : ServerEvent) (e : Ledger) (s : R) : Type 0 where
    pub name : List ℕ
    pub programs : List ProgramBytes
    pub credit : ℕ
    pub buffer : List ℕ
    pub told : Data
    pub mid : Ledger
    pub takes : plainly.TakesJob (starts_at m 0) d r name programs credit buffer told mid s
    pub is_submit : IsSubmit x (length d.jobs + 1) takes.job
    pub keeps : KeepsWithin keep mid e

  abbrev pub Step : DeskState → R → ServerEvent → DeskState → R → Type 0
  Step d r x e s = (TakesNoJob x × KeepsJobs d.ledger r e.ledger s) ⊎ (IsAgain d x × KeepsJobs d.ledger r e.ledger s) ⊎ TakesOne d.ledger r x e.ledger s

  same_all : (d : DeskState) (r : R) (e : DeskState) (s : R) → e ≡ d → s ≡ r → KeepsJobs d.ledger r e.ledger s
  same_all d r e s same same_runner = record { mid = d.ledger; jobs = refl; keeps = inr (ap (λ (x : DeskState). x.ledger) same); runner = inl same_runner }

  module _ (d : DeskState) (r : R) (connection : ℕ) (access : Access) (query : Query) (frame : List ℕ) (started : Result (Unit {0}) ℕ) (e : DeskState) (s : R) where
    abbrev Steps : Type 0
    Steps = Step d r (was_asked connection access query frame started) e s

    none_requested : (key : Option (List ℕ)) (asked : Asked) → query ≡ with_key key asked → (RequestsJob (Ok asked) → ⊥) → QueriesJob (Some query) → ⊥
    none_requested None asked is none asks = none (subst (λ (q : Query). QueriesJob (Some q)) is asks)
    none_requested (Some key) asked is none asks = none (subst (λ (q : Query). QueriesJob (Some q)) is asks)

    submitted : (key : Option (List ℕ)) (name : List ℕ) (order : JobText) → query ≡ with_key key (submit name order) → RepliesPlainly m 0 keep d.ledger r (submit name order) frame e.ledger s → Steps
    unfolding plainly.Replies
    submitted key name order is t = elim t.replies.2 [
      | inl u ↦ inr (inr (record {
        name = name;
        programs = t.replies.0;
        credit = order.credit;
        buffer = order.buffer;
        told = reply_data t.told;
        mid = t.mid;
        takes = u;
        is_submit = record {
          key = key;
          name = name;
          programs = t.replies.0;
          credit = order.credit;
          buffer = order.buffer;
          asks = ap (λ (q : Query). Some q) (is ∙ ap (λ ps. with_key key (submit name (record { programs = ps; credit = order.credit; buffer = order.buffer }))) (sym t.replies.1));
          admitted = u.admitted;
          sent = t.is ∙ framed t.told ∙ ap frame_or_refusal (u.tells ∙ ap submit_data (ap length u.takes.jobs.jobs ∙ length_pushed d.ledger.jobs u.takes.entry)) ∙ sym (framed (reply.Submit (length d.ledger.jobs + 1)));
        };
        keeps = t.keeps;
      }))
      | inr n ↦ inl (
        inr (inl (n.fault, t.is ∙ framed t.told ∙ ap frame_or_refusal n.tells)),
        record { mid = t.mid; jobs = ap (λ (l : Ledger). l.jobs) n.same; keeps = inl t.keeps; runner = inl n.same_runner },
      )
    ]

    by_request : (key : Option (List ℕ)) (asked : Asked) → query ≡ with_key key asked → RepliesPlainly m 0 keep d.ledger r asked frame e.ledger s → Steps
    unfolding plainly.Replies
    by_request key (submit name order) is t = submitted key name order is t
    by_request key (grant name amount) is t = inl (inl (none_requested key (grant name amount) is (λ h. h)), record { mid = t.mid; jobs = granted t.replies.0; keeps = inl t.keeps; runner = inl t.replies.1 })
      where
        granted : Grants d.ledger name amount (reply_data t.told) t.mid ⊎ GrantsNone d.ledger name amount (reply_data t.told) t.mid → t.mid.jobs ≡ d.ledger.jobs
        granted (inl g) = g.more.jobs
        granted (inr g) = ap (λ (l : Ledger). l.jobs) g.same
    by_request key (account name) is t =
        inl (inl (none_requested key (account name) is (λ h. h)), record { mid = t.mid; jobs = ap (λ (l : Ledger). l.jobs) t.replies.1; keeps = inl t.keeps; runner = inl t.replies.2 })
    by_request key (status number) is t =
        inl (inl (none_requested key (status number) is (λ h. h)), record { mid = t.mid; jobs = ap (λ (l : Ledger). l.jobs) t.replies.3; keeps = inl t.keeps; runner = inr (number, t.replies.0, t.replies.1) })
    by_request key (result number) is t =
        inl (inl (none_requested key (result number) is (λ h. h)), record { mid = t.mid; jobs = ap (λ (l : Ledger). l.jobs) t.replies.1; keeps = inl t.keeps; runner = inl t.replies.2 })

    nothing : TakesNoJob (was_asked connection access query frame started) → e ≡ d → s ≡ r → Steps
    nothing none same same_runner = inl (none, same_all d r e s same same_runner)

    -- a submit by a new key, as the desk is asked it
    by_own : (key : List ℕ) (asked : Result Asked ℕ) (own : Bool) → query ≡ keyed (Some key) asked → RepliesByKey m 0 keep None d r key (own_submit [] access asked) frame e s → Steps
    by_own key (Err code) own is t = nothing (inl (λ asks. subst (λ (q : Query). QueriesJob (Some q)) is asks)) t.1 t.2
    by_own key (Ok (grant name amount)) own is t = nothing (inl (λ asks. subst (λ (q : Query). QueriesJob (Some q)) is asks)) t.1 t.2
    by_own key (Ok (account name)) own is t = nothing (inl (λ asks. subst (λ (q : Query). QueriesJob (Some q)) is asks)) t.1 t.2
    by_own key (Ok (status number)) own is t = nothing (inl (λ asks. subst (λ (q : Query). QueriesJob (Some q)) is asks)) t.1 t.2
    by_own key (Ok (result number)) own is t = nothing (inl (λ asks. subst (λ (q : Query). QueriesJob (Some q)) is asks)) t.1 t.2
    by_own key (Ok (submit name order)) own is t = by_place (tenant_place [] name == access.desk) t
      where
        by_place : (b : Bool) → RepliesByKey m 0 keep None d r key (if b then Ok (submit name order) else Err 74) frame e s → Steps
        by_place true u = by_request (Some key) (submit name order) is u.0
        by_place false u = nothing (inr (inr (inr u.0))) u.1 u.2

    by_key : (key : List ℕ) (asked : Result Asked ℕ) (known : Option ℕ) → job_among d.keys key ≡ known → event_key (was_asked connection access query frame started) ≡ Some key → query ≡ keyed (Some key) asked
        → RepliesByKey m 0 keep known d r key (own_submit [] access asked) frame e s → Steps
    by_key key asked None unknown has is t = by_own key asked true is t
    by_key key asked (Some job) known has is t = inr (inl (record { key = key; has = has; number = job; known = known; sent = t.0 }, same_all d r e s t.1 t.2))

  pub step_of : (d : DeskState) (r : R) (connection : ℕ) (access : Access) (query : Query) (frame : List ℕ) (started : Result (Unit {0}) ℕ) (e : DeskState) (s : R) → goes [] access query ≡ desk_at 0
      → DeskReplies m 0 keep d r (desk_query [] access query) frame e s → Step d r (was_asked connection access query frame started) e s
  unfolding DeskReplies
  step_of d r connection access (plain (Ok asked)) frame started e s to t = by_request d r connection access (plain (Ok asked)) frame started e s None asked refl t.0
  step_of d r connection access (plain (Err code)) frame started e s to t = nothing d r connection access (plain (Err code)) frame started e s (inl (λ h. h)) t.1 t.2
  step_of d r connection access (keyed None asked) frame started e s to t = nothing d r connection access (keyed None asked) frame started e s (inr (inr (inl t.0))) t.1 t.2
  step_of d r connection access (keyed (Some key) asked) frame started e s to t =
      by_key d r connection access (keyed (Some key) asked) frame started e s key asked (job_among d.keys key) refl (has_key connection access key asked frame started to) refl t
  step_of d r connection access (jobs from) frame started e s to t = nothing d r connection access (jobs from) frame started e s (inl (λ h. h)) t.1 t.2
  step_of d r connection access (counts stops) frame started e s to t = absurd t

  -- ---- as many jobs as before, or one more

  kept_count : (mid e : Ledger) → KeepsWithin keep mid e ⊎ (e ≡ mid) → length e.jobs ≡ length mid.jobs
  kept_count mid e (inl keeps) = keeps.1.forgets.jobs.count
  kept_count mid e (inr same) = ap (λ (l : Ledger). length l.jobs) same

  pub same_count : (d : Ledger) (r : R) (e : Ledger) (s : R) → KeepsJobs d r e s → length e.jobs ≡ length d.jobs
  same_count d r e s k = kept_count k.mid e k.keeps ∙ ap length k.jobs

  pub one_counted : (d : Ledger) (r : R) (x : ServerEvent) (e : Ledger) (s : R) → TakesOne d r x e s → length e.jobs ≡ length d.jobs + 1
  one_counted d r x e s t =
      kept_count t.mid e (inl t.keeps) ∙ settled_count t.takes.mid (length t.takes.mid.jobs) t.takes.outcome t.mid t.takes.settles ∙ ap length t.takes.takes.jobs.jobs ∙ length_pushed d.jobs t.takes.takes.entry

-- ---- the jobs that are known

-- the jobs that are known behind a history, as many as the desk has, and its keyed jobs
pub record Known (keys : List KeyedJob) (first : List KnownJob) (events : List ServerEvent) (d : DeskState) : Type 0 where
  pub keyed : Keyed keys events d
  pub known : List KnownJob
  pub are : AreKnown keys first events known
  pub count : length d.ledger.jobs ≡ length known

pub again_of : (keys : List KeyedJob) (events : List ServerEvent) (d : DeskState) (x : ServerEvent) → Keyed keys events d → IsAgain d x → SendsAgain keys events x
again_of keys events d x k a = record {
  key = a.key;
  has = a.has;
  keyed_jobs = k.all;
  are = k.are;
  number = a.number;
  known = ap (λ ks. job_among ks a.key) (sym k.same) ∙ a.known;
  sent = a.sent;
}

noted_count : (old : Ledger) (number : ℕ) (outcome : Result Report ℕ) (new : Ledger) → Notes old number outcome new → length new.jobs ≡ length old.jobs
noted_count old number outcome new (inl f) = finished old number outcome new f
noted_count old number outcome new (inr t) = ap (λ (l : Ledger). length l.jobs) t.1

module _ {R : Type 0} (m : JobsSteps R) (keep : KeepLimits) (keys : List KeyedJob) (first : List KnownJob) where
  -- behind a step of the desk, its keyed jobs are those of the history
  keyed_then : (events : List ServerEvent) (d : DeskState) (connection : ℕ) (access : Access) (query : Query) (frame : List ℕ) (started : Result (Unit {0}) ℕ) (r : R) (e : DeskState) (s : R) → Keyed keys events d
      → goes [] access query ≡ desk_at 0 → DeskReplies (starting_to started m) 0 keep d r (desk_query [] access query) frame e s → Keyed keys (events ++ was_asked connection access query frame started ∷ []) e
  keyed_then events d connection access query frame started r e s was to replies = keyed_answer (starting_to started m) keep keys events d connection access query frame started r e s was to replies

  pub known_asked : (events : List ServerEvent) (d : DeskState) (connection : ℕ) (access : Access) (query : Query) (frame : List ℕ) (started : Result (Unit {0}) ℕ) (r : R) (e : DeskState) (s : R) → Known keys first events d
      → goes [] access query ≡ desk_at 0 → DeskReplies (starting_to started m) 0 keep d r (desk_query [] access query) frame e s → Known keys first (events ++ was_asked connection access query frame started ∷ []) e
  known_asked events d connection access query frame started r e s was to replies = by_step (step_of (starting_to started m) keep d r connection access query frame started e s to replies)
    where
      keyed_jobs : Keyed keys (events ++ was_asked connection access query frame started ∷ []) e
      keyed_jobs = keyed_then events d connection access query frame started r e s was.keyed to replies

      by_step : Step (starting_to started m) keep d r (was_asked connection access query frame started) e s → Known keys first (events ++ was_asked connection access query frame started ∷ []) e
      by_step (inl none) = record {
        keyed = keyed_jobs;
        known = was.known;
        are = no_more events was.known (was_asked connection access query frame started) was.are none.0;
        count = same_count (starting_to started m) keep d.ledger r e.ledger s none.1 ∙ was.count;
      }
      by_step (inr (inl again)) = record {
        keyed = keyed_jobs;
        known = was.known;
        are = one_again events was.known (was_asked connection access query frame started) was.are (again_of keys events d (was_asked connection access query frame started) was.keyed again.0);
        count = same_count (starting_to started m) keep d.ledger r e.ledger s again.1 ∙ was.count;
      }
      by_step (inr (inr one)) = record {
        keyed = keyed_jobs;
        known = was.known ++ Itself one.takes.job ∷ [];
        are = one_more events was.known (was_asked connection access query frame started) one.takes.job was.are
            (subst (λ (n : ℕ). IsSubmit (was_asked connection access query frame started) (n + 1) one.takes.job) was.count one.is_submit);
        count = one_counted (starting_to started m) keep d.ledger r (was_asked connection access query frame started) e.ledger s one ∙ ap (λ (n : ℕ). n + 1) was.count ∙ sym (length_pushed was.known (Itself one.takes.job));
      }

-- behind an event that takes no job, and leaves as many
pub known_same : (keys : List KeyedJob) (first : List KnownJob) (events : List ServerEvent) (d e : DeskState) (x : ServerEvent) → Known keys first events d → TakesNoJob x → Keyed keys (events ++ x ∷ []) e → length e.ledger.jobs ≡ length d.ledger.jobs
    → Known keys first (events ++ x ∷ []) e
known_same keys first events d e x was none keyed_jobs same = record { keyed = keyed_jobs; known = was.known; are = no_more events was.known x was.are none; count = same ∙ was.count }

pub known_aside : (keys : List KeyedJob) (first : List KnownJob) (events : List ServerEvent) (d : DeskState) (connection : ℕ) (access : Access) (query : Query) (frame : List ℕ) (started : Result (Unit {0}) ℕ) (to : Destination)
    → Known keys first events d → goes [] access query ≡ to → IsAsideAt to frame → Known keys first (events ++ was_asked connection access query frame started ∷ []) d
known_aside keys first events d connection access query frame started to was is aside =
    known_same keys first events d d (was_asked connection access query frame started) was (aside_takes_none connection access query frame started to is aside)
    (no_more_keys keys events d d (was_asked connection access query frame started) was.keyed refl
    (key_aside connection access query frame started (λ here. subst (λ (o : Destination). IsAsideAt o frame) (sym is ∙ here) aside))) refl

pub known_ended : (keys : List KeyedJob) (first : List KnownJob) (events : List ServerEvent) (d e : DeskState) (id : JobId) (outcome : Result Report ℕ)
    → Known keys first events d → NotesEnd id.number outcome d e → Known keys first (events ++ has_ended id outcome ∷ []) e
known_ended keys first events d e id outcome was noted =
    known_same keys first events d e (has_ended id outcome) was (inl (λ h. h)) (no_more_keys keys events d e (has_ended id outcome) was.keyed noted.keys refl) (noted_count d.ledger id.number outcome e.ledger noted.notes)

pub known_lost : (keys : List KeyedJob) (first : List KnownJob) (events : List ServerEvent) (d : DeskState) (id : JobId) (outcome : Result Report ℕ) → Known keys first events d → Known keys first (events ++ has_ended id outcome ∷ []) d
known_lost keys first events d id outcome was = known_same keys first events d d (has_ended id outcome) was (inl (λ h. h)) (no_more_keys keys events d d (has_ended id outcome) was.keyed refl refl) refl
