-- The one relation: what a server answers.
use Rattle.std.specs.Prelude.{◌≡◌, ◌⊎◌, ◌≤◌, ℕ, List, [], ◌∷◌, ◌++◌, length, slice_get, slice_set, Some, None, Result, Ok, Err}
use Rattle.credit_book.specs.declared.book.Report.{Report}
use Rattle.job_core.specs.Admitted.{AdmittedJob}
use Rattle.sessions.specs.Replies.{frame_or_refusal, server_data}
use Rattle.sessions.specs.declared.server_totals.ConnectionTotals.{ConnectionTotals}
use Rattle.sessions.specs.declared.server_totals.JobTotals.{JobTotals}
use Rattle.sessions.specs.declared.server_totals.RefusalCount.{RefusalCount}
use Rattle.streams.specs.Passing.{Notes}
use Rattle.server_state.specs.declared.access.Access.{Access}
use Rattle.server_state.specs.declared.job_id.JobId.{JobId}
use Rattle.server_state.specs.States.{DeskState, ServerState, JobsSteps, with_jobs}
use Rattle.server_state.specs.Queries.{Query, Destination, desk_at, server_itself, refused_by, goes, desk_query}
use Rattle.server_state.specs.Desks.{DeskReplies, refusal_frame}

-- The desk at a place changes so, with the runner, and nothing else does.
pub record ChangesAt {R : Type 0} (place : ℕ)
    (change : DeskState → R → DeskState → R → Type 0) (s t : ServerState R) : Type 0 where
  pub before : DeskState
  pub was : slice_get s.desks place ≡ Some before
  pub after : DeskState
  pub changed : change before s.jobs after t.jobs
  pub is : t ≡ record s { desks = slice_set s.desks place after; jobs = t.jobs }

-- the frame of the counts of a server
pub record TellsCounts (frame : List ℕ) : Type 0 where
  pub connections : ConnectionTotals
  pub instance : ℕ
  pub jobs : JobTotals
  pub lines_lost : ℕ
  pub refusals : List RefusalCount
  pub seconds : ℕ
  pub is : frame ≡ frame_or_refusal
      (server_data connections instance jobs lines_lost refusals seconds)

-- a desk notes the end of a job, or passes over that of a job that is not open
pub record NotesEnd (number : ℕ) (outcome : Result Report ℕ) (old new : DeskState) : Type 0 where
  pub notes : Notes old.ledger number outcome new.ledger
  pub keys : new.keys ≡ old.keys

module _ {R : Type 0} (m : JobsSteps R) where
  -- A job that is over was taken from the runner, and its desk notes the end. The end is passed over
  -- where there is no such desk.
  pub record EndsJob (s : ServerState R) (id : JobId) (outcome : Result Report ℕ) (t : ServerState R) :
      Type 0 where
    pub takes : m.takes s.jobs (Some (id, outcome)) t.jobs
    pub notes : ChangesAt id.desk (λ d r e q. NotesEnd id.number outcome d e) s t
        ⊎ ((length s.desks ≤ id.desk) × (t ≡ with_jobs s t.jobs))

  -- the waiting jobs behind the start of the first of them: a job that is refused waits behind the
  -- others
  abbrev pub waiting_behind : JobId × AdmittedJob → Result (Unit {0}) ℕ
      → List (JobId × AdmittedJob) → List (JobId × AdmittedJob)
  waiting_behind job (Ok started) others = others
  waiting_behind job (Err code) others = others ++ job ∷ []

  -- The first job that waits was started, or it was refused and waits on.
  pub record BeginsWaiting (s t : ServerState R) : Type 0 where
    pub job : JobId × AdmittedJob
    pub others : List (JobId × AdmittedJob)
    pub was : s.waiting ≡ job ∷ others
    pub started : Result (Unit {0}) ℕ
    pub starts : m.starts s.jobs job.0 job.1 started t.jobs
    pub is : t ≡ record s { waiting = waiting_behind job started others; jobs = t.jobs }

  -- the answer of a desk, of the server itself, or of none
  abbrev pub AnswersAt : Destination → ServerState R → Query → List ℕ → ServerState R → Type 0
  AnswersAt (desk_at place) s query frame t =
      ChangesAt place (λ d r e q. DeskReplies m place s.keep d r query frame e q) s t
  AnswersAt server_itself s query frame t = TellsCounts frame × (t ≡ s)
  AnswersAt (refused_by code) s query frame t = (frame ≡ refusal_frame code) × (t ≡ s)

  -- The answer at a state: the desk that the query goes to answers it alone; or the server itself
  -- does, and changes nothing; or a refusal says why there is none.
  abbrev pub ServerAnswers : ServerState R → Access → Query → List ℕ → ServerState R → Type 0
  ServerAnswers s access query frame t =
      AnswersAt (goes s.names access query) s (desk_query s.names access query) frame t

  -- ends of jobs, one after the other
  pub data EndsEach (s : ServerState R) : List (JobId × Result Report ℕ) → ServerState R
      → Type 0 where
    none_yet : EndsEach s [] s
    one_more : (ends : List (JobId × Result Report ℕ)) (t : ServerState R) (id : JobId)
        (outcome : Result Report ℕ) (u : ServerState R)
        → EndsEach s ends t → EndsJob t id outcome u → EndsEach s (ends ++ (id, outcome) ∷ []) u

  -- until none is left
  pub record Collects (s : ServerState R) (ends : List (JobId × Result Report ℕ))
      (t : ServerState R) : Type 0 where
    pub last : ServerState R
    pub ended : EndsEach s ends last
    pub none_left : m.takes last.jobs None t.jobs
    pub is : t ≡ with_jobs last t.jobs

  -- the handler collects the jobs that are over, and then answers
  pub record CollectsAndAnswers (s : ServerState R) (access : Access) (query : Query)
      (ends : List (JobId × Result Report ℕ)) (frame : List ℕ) (t : ServerState R) : Type 0 where
    pub mid : ServerState R
    pub collects : Collects s ends mid
    pub answers : ServerAnswers mid access query frame t
