-- What holds of the one desk of a server and its runner, step by step, holds behind each history and at each of its events.
use Rattle.std.proofs.Common.{◌≡◌, ◌≢◌, ◌⊎◌, ℕ, List, [], ◌∷◌, ◌++◌, length, slice_get, slice_set, Some, None, Result, refl, sym, ap, subst, ◌∙◌, inl, inr, arith}
use Rattle.credit_book.specs.declared.book.Report.{Report}
use Rattle.job_core.specs.Admitted.{AdmittedJob}
use Rattle.accounts.specs.declared.keep_limits.KeepLimits.{KeepLimits}
use Rattle.server_state.specs.declared.access.Access.{Access}
use Rattle.server_state.specs.declared.job_id.JobId.{JobId}
use Rattle.server_state.specs.States.{DeskState, JobsSteps, ServerState, starting_to}
use Rattle.server_state.specs.Queries.{Query, Destination, desk_at, server_itself, refused_by, desk_query, goes}
use Rattle.server_state.specs.Desks.{DeskReplies, refusal_frame}
use Rattle.server_state.specs.Answering.{AnswersAt, BeginsWaiting, ChangesAt, EndsJob, NotesEnd, TellsCounts, waiting_behind}
use Rattle.server_state.specs.Histories.{ServerEvent, was_asked, has_ended, Happens, none_yet, one_asked, one_ended, one_begun, none_ended}
use Rattle.server_state.specs.Alone.{one_desk}
use Rattle.server_state.proofs.ListEnds.{last_same, last_of, none_pushed, joined_again}
use Rattle.server_state.proofs.OneDesk.{first_of_one}
use Rattle.server_state.proofs.StaysOver.{StayOver, stay_same, stay_on, stay_answered, stay_ended}

-- the answer to a query that goes to no desk
abbrev pub IsAsideAt : Destination → List ℕ → Type 0
IsAsideAt (desk_at place) frame = ⊥
IsAsideAt server_itself frame = TellsCounts frame
IsAsideAt (refused_by code) frame = frame ≡ refusal_frame code

-- ---- the moment of an event

module _ {R : Type 0} (m : JobsSteps R) (keep : KeepLimits) where
  -- an event by which a desk and the runner came to these: of an event that is no answer nothing is told here
  abbrev pub Comes : ServerEvent → DeskState → R → DeskState → R → Type 0
  Comes (was_asked connection access query frame started) d r e s =
      ((goes [] access query ≡ desk_at 0) × DeskReplies (starting_to started m) 0 keep d r (desk_query [] access query) frame e s) ⊎ IsAsideAt (goes [] access query) frame
  Comes (has_ended id outcome) d r e s = Unit {0}

module _ {R : Type 0} (m : JobsSteps R) (keep : KeepLimits) (P : List ServerEvent → DeskState → List (JobId × AdmittedJob) → R → Type 0) where
  -- the desk, the waiting jobs and the runner ahead of an event, and the desk behind it, up to this one
  pub record Moment (before : List ServerEvent) (x : ServerEvent) (last : DeskState) : Type 0 where
    pub old : DeskState
    pub waiting : List (JobId × AdmittedJob)
    pub runner : R
    pub holds : P before old waiting runner
    pub new : DeskState
    pub left : R
    pub comes : Comes m keep x old runner new left
    pub stays : StayOver new.ledger.jobs last.ledger.jobs

  abbrev pub Moments : List ServerEvent → DeskState → Type 0
  Moments events d = (before after : List ServerEvent) (x : ServerEvent) → events ≡ before ++ x ∷ after → Moment before x d

  pub later : (before : List ServerEvent) (x : ServerEvent) (d e : DeskState) → StayOver d.ledger.jobs e.ledger.jobs → Moment before x d → Moment before x e
  later before x d e stays t = record {
    old = t.old;
    waiting = t.waiting;
    runner = t.runner;
    holds = t.holds;
    new = t.new;
    left = t.left;
    comes = t.comes;
    stays = stay_on t.new.ledger.jobs d.ledger.jobs e.ledger.jobs t.stays stays;
  }

  pub one_more : (events : List ServerEvent) (y : ServerEvent) (d : DeskState) (w : List (JobId × AdmittedJob)) (r : R) (e : DeskState) (s : R) → P events d w r → Moments events d → Comes m keep y d r e s → StayOver d.ledger.jobs e.ledger.jobs
      → Moments (events ++ y ∷ []) e
  one_more events y d w r e s holds was comes stays before [] x is =
      let same = last_same events before y x is in
      record {
        old = d;
        waiting = w;
        runner = r;
        holds = subst (λ (l : List ServerEvent). P l d w r) same.0 holds;
        new = e;
        left = s;
        comes = subst (λ (z : ServerEvent). Comes m keep z d r e s) same.1 comes;
        stays = stay_same e.ledger.jobs e.ledger.jobs refl;
      }
  one_more events y d w r e s holds was comes stays before (a ∷ after) x is =
      let parted = last_of a after in
      let same = last_same events (before ++ x ∷ parted.0) y parted.1 (is ∙ ap (λ l. before ++ x ∷ l) parted.2 ∙ sym (joined_again before x parted.0 (parted.1 ∷ []))) in
      later before x d e stays (was before parted.0 x same.0)

-- ---- histories

module _ {R : Type 0} (m : JobsSteps R) (keep : KeepLimits) (P : List ServerEvent → DeskState → List (JobId × AdmittedJob) → R → Type 0)
    (asked : (events : List ServerEvent) (d : DeskState) (w : List (JobId × AdmittedJob)) (connection : ℕ) (access : Access) (query : Query) (frame : List ℕ) (started : Result (Unit {0}) ℕ) (r : R) (e : DeskState) (s : R) → P events d w r
    → goes [] access query ≡ desk_at 0 → DeskReplies (starting_to started m) 0 keep d r (desk_query [] access query) frame e s → P (events ++ was_asked connection access query frame started ∷ []) e w s)
    (aside : (events : List ServerEvent) (d : DeskState) (w : List (JobId × AdmittedJob)) (r : R) (connection : ℕ) (access : Access) (query : Query) (frame : List ℕ) (started : Result (Unit {0}) ℕ) (to : Destination) → P events d w r
    → goes [] access query ≡ to → IsAsideAt to frame → P (events ++ was_asked connection access query frame started ∷ []) d w r)
    (ended : (events : List ServerEvent) (d : DeskState) (w : List (JobId × AdmittedJob)) (id : JobId) (outcome : Result Report ℕ) (r : R) (e : DeskState) (s : R) → P events d w r
    → m.takes r (Some (id, outcome)) s → id.desk ≡ 0 → NotesEnd id.number outcome d e → P (events ++ has_ended id outcome ∷ []) e w s)
    (lost : (events : List ServerEvent) (d : DeskState) (w : List (JobId × AdmittedJob)) (id : JobId) (outcome : Result Report ℕ) (r s : R) → P events d w r
    → m.takes r (Some (id, outcome)) s → id.desk ≢ 0 → P (events ++ has_ended id outcome ∷ []) d w s)
    (begun : (events : List ServerEvent) (d : DeskState) (job : JobId × AdmittedJob) (others : List (JobId × AdmittedJob)) (started : Result (Unit {0}) ℕ) (r s : R) → P events d (job ∷ others) r
    → m.starts r job.0 job.1 started s → P events d (waiting_behind m job started others) s)
    (none : (events : List ServerEvent) (d : DeskState) (w : List (JobId × AdmittedJob)) (r s : R) → P events d w r → m.takes r None s → P events d w s) where
  -- ---- the state of the server behind a history

  record Along (events : List ServerEvent) (s : ServerState R) : Type 0 where
    desk : DeskState
    names : s.names ≡ []
    kept : s.keep ≡ keep
    desks : s.desks ≡ desk ∷ []
    holds : P events desk s.waiting s.jobs
    moments : Moments m keep P events desk

  -- the desk at a place changed: it is this one
  changed : (change : DeskState → R → DeskState → R → Type 0) (place : ℕ) (d : DeskState) (s t : ServerState R) → s.desks ≡ d ∷ [] → ChangesAt place change s t
      → (place ≡ 0) × ((e : DeskState) × change d s.jobs e t.jobs × (t.desks ≡ e ∷ []))
  changed change place d s t desks c =
      let first = first_of_one d c.before place (ap (λ (ds : List DeskState). slice_get ds place) (sym desks) ∙ c.was) in (
        first.0,
        (
          c.after,
          subst (λ (x : DeskState). change x s.jobs c.after t.jobs) first.1 c.changed,
          ap (λ (x : ServerState R). x.desks) c.is ∙ ap (λ (ds : List DeskState). slice_set ds place c.after) desks ∙ ap (λ (i : ℕ). slice_set (d ∷ []) i c.after) first.0,
        ),
      )

  module _ (events : List ServerEvent) (s t : ServerState R) (was : Along events s) where
    after_end : (id : JobId) (outcome : Result Report ℕ) → EndsJob m s id outcome t → Along (events ++ has_ended id outcome ∷ []) t
    after_end id outcome end = elim end.notes [
      | inl c ↦
          let n = changed (λ d r e q. NotesEnd id.number outcome d e) id.desk was.desk s t was.desks c in
          record {
            desk = n.1.0;
            names = ap (λ (x : ServerState R). x.names) c.is ∙ was.names;
            kept = ap (λ (x : ServerState R). x.keep) c.is ∙ was.kept;
            desks = n.1.2;
            holds = subst (λ w. P (events ++ has_ended id outcome ∷ []) n.1.0 w t.jobs) (sym (ap (λ (x : ServerState R). x.waiting) c.is))
                (ended events was.desk s.waiting id outcome s.jobs n.1.0 t.jobs was.holds end.takes n.0 n.1.1);
            moments = one_more m keep P events (has_ended id outcome) was.desk s.waiting s.jobs n.1.0 t.jobs was.holds was.moments tt (stay_ended id.number outcome was.desk n.1.0 n.1.1);
          }
      | inr past ↦
          let long = past.0 in
          let one = ap length was.desks in
          record {
            desk = was.desk;
            names = ap (λ (x : ServerState R). x.names) past.1 ∙ was.names;
            kept = ap (λ (x : ServerState R). x.keep) past.1 ∙ was.kept;
            desks = ap (λ (x : ServerState R). x.desks) past.1 ∙ was.desks;
            holds = subst (λ w. P (events ++ has_ended id outcome ∷ []) was.desk w t.jobs) (sym (ap (λ (x : ServerState R). x.waiting) past.1))
                (lost events was.desk s.waiting id outcome s.jobs t.jobs was.holds end.takes (λ here. absurd (omega (arith, long, one, here))));
            moments = one_more m keep P events (has_ended id outcome) was.desk s.waiting s.jobs was.desk t.jobs was.holds was.moments tt (stay_same was.desk.ledger.jobs was.desk.ledger.jobs refl);
          }
    ]

    after_begin : BeginsWaiting m s t → Along events t
    after_begin b = record {
      desk = was.desk;
      names = ap (λ (x : ServerState R). x.names) b.is ∙ was.names;
      kept = ap (λ (x : ServerState R). x.keep) b.is ∙ was.kept;
      desks = ap (λ (x : ServerState R). x.desks) b.is ∙ was.desks;
      holds = subst (λ w. P events was.desk w t.jobs) (sym (ap (λ (x : ServerState R). x.waiting) b.is))
          (begun events was.desk b.job b.others b.started s.jobs t.jobs (subst (λ w. P events was.desk w s.jobs) b.was was.holds) b.starts);
      moments = was.moments;
    }

    -- an answer that changes nothing
    unchanged : (connection : ℕ) (access : Access) (query : Query) (frame : List ℕ) (started : Result (Unit {0}) ℕ) (to : Destination) → t ≡ s → goes [] access query ≡ to → IsAsideAt to frame
        → Along (events ++ was_asked connection access query frame started ∷ []) t
    unchanged connection access query frame started to same is at = record {
      desk = was.desk;
      names = ap (λ (x : ServerState R). x.names) same ∙ was.names;
      kept = ap (λ (x : ServerState R). x.keep) same ∙ was.kept;
      desks = ap (λ (x : ServerState R). x.desks) same ∙ was.desks;
      holds = subst (λ (x : ServerState R). P (events ++ was_asked connection access query frame started ∷ []) was.desk x.waiting x.jobs) (sym same)
          (aside events was.desk s.waiting s.jobs connection access query frame started to was.holds is at);
      moments = one_more m keep P events (was_asked connection access query frame started) was.desk s.waiting s.jobs was.desk s.jobs was.holds was.moments
          (inr (subst (λ (o : Destination). IsAsideAt o frame) (sym is) at)) (stay_same was.desk.ledger.jobs was.desk.ledger.jobs refl);
    }

    after_answer : (connection : ℕ) (access : Access) (query : Query) (frame : List ℕ) (started : Result (Unit {0}) ℕ) (to : Destination) → goes [] access query ≡ to → (own : KeepLimits) → own ≡ keep → s.keep ≡ own
        → AnswersAt (starting_to started m) to s (desk_query [] access query) frame t → Along (events ++ was_asked connection access query frame started ∷ []) t
    after_answer connection access query frame started (desk_at place) is own same kept c =
        let at_keep = subst (λ (k : KeepLimits). ChangesAt place (λ d r e q. DeskReplies (starting_to started m) place k d r (desk_query [] access query) frame e q) s t) (kept ∙ same) c in
        let n = changed (λ d r e q. DeskReplies (starting_to started m) place keep d r (desk_query [] access query) frame e q) place was.desk s t was.desks at_keep in
        let to_desk = is ∙ ap desk_at n.0 in
        let replies = subst (λ (i : ℕ). DeskReplies (starting_to started m) i keep was.desk s.jobs (desk_query [] access query) frame n.1.0 t.jobs) n.0 n.1.1 in
        record {
          desk = n.1.0;
          names = ap (λ (x : ServerState R). x.names) c.is ∙ was.names;
          kept = ap (λ (x : ServerState R). x.keep) c.is ∙ was.kept;
          desks = n.1.2;
          holds = subst (λ w. P (events ++ was_asked connection access query frame started ∷ []) n.1.0 w t.jobs) (sym (ap (λ (x : ServerState R). x.waiting) c.is))
              (asked events was.desk s.waiting connection access query frame started s.jobs n.1.0 t.jobs was.holds to_desk replies);
          moments = one_more m keep P events (was_asked connection access query frame started) was.desk s.waiting s.jobs n.1.0 t.jobs was.holds was.moments (inl (to_desk, replies))
              (stay_answered (starting_to started m) 0 keep was.desk s.jobs (desk_query [] access query) frame n.1.0 t.jobs replies);
        }
    after_answer connection access query frame started server_itself is own same kept a = unchanged connection access query frame started server_itself a.1 is a.0
    after_answer connection access query frame started (refused_by code) is own same kept a = unchanged connection access query frame started (refused_by code) a.1 is a.0

  -- ---- whole histories

  module _ (first : DeskState) (waiting : List (JobId × AdmittedJob)) (q : R) (holds : P [] first waiting q) where
    each : (events : List ServerEvent) (s : ServerState R) → Happens m (one_desk keep first waiting q) events s → Along events s
    each _ s none_yet = record { desk = first; names = refl; kept = refl; desks = refl; holds = holds; moments = λ before after x is. absurd (none_pushed before after x is) }
    each _ t (one_asked events s connection access query frame started u before a) =
        let was = each events s before in
        after_answer events s u was connection access query frame started (goes [] access query) refl s.keep was.kept refl
        (subst (λ (names : List (List ℕ)). AnswersAt (starting_to started m) (goes names access query) s (desk_query names access query) frame u) was.names a)
    each _ t (one_ended events s id outcome u before end) = after_end events s u (each events s before) id outcome end
    each _ t (one_begun events s u before b) = after_begin events s u (each events s before) b
    each _ t (none_ended events s r before no_end) =
        let was = each events s before in
        record { desk = was.desk; names = was.names; kept = was.kept; desks = was.desks; holds = none events was.desk s.waiting s.jobs r was.holds no_end; moments = was.moments }

    pub behind : (events : List ServerEvent) (s : ServerState R) → Happens m (one_desk keep first waiting q) events s → (d : DeskState) × P events d s.waiting s.jobs
    behind events s happens = let a = each events s happens in (a.desk, a.holds)

    -- the desk behind a history, and the moments of its events
    pub all_moments : (events : List ServerEvent) (s : ServerState R) → Happens m (one_desk keep first waiting q) events s → (d : DeskState) × (s.desks ≡ d ∷ []) × P events d s.waiting s.jobs × Moments m keep P events d
    all_moments events s happens = let a = each events s happens in (a.desk, a.desks, a.holds, a.moments)

    pub moment : (before after : List ServerEvent) (x : ServerEvent) (s : ServerState R) → Happens m (one_desk keep first waiting q) (before ++ x ∷ after) s → (last : DeskState) × Moment m keep P before x last
    moment before after x s happens = let a = each (before ++ x ∷ after) s happens in (a.desk, a.moments before after x refl)
