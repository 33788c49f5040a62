-- The histories of a server.
use Rattle.std.specs.Prelude.{ℕ, List, [], ◌∷◌, ◌++◌, None, Result}
use Rattle.credit_book.specs.declared.book.Report.{Report}
use Rattle.server_state.specs.declared.access.Access.{Access}
use Rattle.server_state.specs.declared.job_id.JobId.{JobId}
use Rattle.server_state.specs.States.{ServerState, JobsSteps, starting_to, with_jobs}
use Rattle.server_state.specs.Queries.{Query}
use Rattle.server_state.specs.Answering.{ServerAnswers, BeginsWaiting, EndsJob}

-- A connection of this number asked this by its access, was sent this frame, and the start of its job
-- came to this, if there was one; or a job was over.
pub data ServerEvent : Type 0 where
  was_asked : (connection : ℕ) (access : Access) (query : Query) (frame : List ℕ)
      (started : Result (Unit {0}) ℕ) → ServerEvent
  has_ended : (id : JobId) (outcome : Result Report ℕ) → ServerEvent

-- These events lead from a first state to this one. The start of a job that waited, and a look that
-- finds no finished job, are no events.
pub data Happens {R : Type 0} (m : JobsSteps R) (first : ServerState R) :
    List ServerEvent → ServerState R → Type 0 where
  none_yet : Happens m first [] first
  one_asked : (events : List ServerEvent) (s : ServerState R) (connection : ℕ) (access : Access)
      (query : Query) (frame : List ℕ) (started : Result (Unit {0}) ℕ) (t : ServerState R)
      → Happens m first events s → ServerAnswers (starting_to started m) s access query frame t
      → Happens m first (events ++ was_asked connection access query frame started ∷ []) t
  one_ended : (events : List ServerEvent) (s : ServerState R) (id : JobId) (outcome : Result Report ℕ)
      (t : ServerState R)
      → Happens m first events s → EndsJob m s id outcome t
      → Happens m first (events ++ has_ended id outcome ∷ []) t
  one_begun : (events : List ServerEvent) (s t : ServerState R)
      → Happens m first events s → BeginsWaiting m s t → Happens m first events t
  none_ended : (events : List ServerEvent) (s : ServerState R) (r : R)
      → Happens m first events s → m.takes s.jobs None r
      → Happens m first events (with_jobs s r)
