-- What happened to the one desk of a server, without the runner of its jobs.
use Rattle.std.proofs.Common.{◌≡◌, ◌≢◌, ℕ, List, [], ◌∷◌, ◌++◌, Result}
use Rattle.credit_book.specs.declared.book.Report.{Report}
use Rattle.job_core.specs.Admitted.{AdmittedJob}
use Rattle.accounts.specs.declared.keep_limits.KeepLimits.{KeepLimits}
use Rattle.server_state.specs.declared.access.Access.{Access}
use Rattle.server_state.specs.declared.job_id.JobId.{JobId}
use Rattle.server_state.specs.States.{DeskState, JobsSteps, ServerState, starting_to}
use Rattle.server_state.specs.Queries.{Query, desk_at, desk_query, goes}
use Rattle.server_state.specs.Desks.{DeskReplies}
use Rattle.server_state.specs.Answering.{NotesEnd}
use Rattle.server_state.specs.Histories.{ServerEvent, was_asked, has_ended, Happens}
use Rattle.server_state.specs.Alone.{one_desk}
use Rattle.server_state.proofs.OneDesk.{IsAside, along}

pub data Trace {R : Type 0} (m : JobsSteps R) (keep : KeepLimits) (begun : DeskState) : List ServerEvent → DeskState → Type 0 where
  nothing : Trace m keep begun [] begun
  asked : (events : List ServerEvent) (d : DeskState) (connection : ℕ) (access : Access) (query : Query) (frame : List ℕ) (started : Result (Unit {0}) ℕ) (r : R) (e : DeskState) (s : R) → Trace m keep begun events d
      → goes [] access query ≡ desk_at 0 → DeskReplies (starting_to started m) 0 keep d r (desk_query [] access query) frame e s → Trace m keep begun (events ++ was_asked connection access query frame started ∷ []) e
  aside : (events : List ServerEvent) (d : DeskState) (connection : ℕ) (access : Access) (query : Query) (frame : List ℕ) (started : Result (Unit {0}) ℕ) → Trace m keep begun events d → (goes [] access query ≡ desk_at 0 → ⊥)
      → IsAside (goes [] access query) frame → Trace m keep begun (events ++ was_asked connection access query frame started ∷ []) d
  ended : (events : List ServerEvent) (d : DeskState) (id : JobId) (outcome : Result Report ℕ) (e : DeskState) → Trace m keep begun events d → id.desk ≡ 0 → NotesEnd id.number outcome d e
      → Trace m keep begun (events ++ has_ended id outcome ∷ []) e
  lost : (events : List ServerEvent) (d : DeskState) (id : JobId) (outcome : Result Report ℕ) → Trace m keep begun events d → id.desk ≢ 0 → Trace m keep begun (events ++ has_ended id outcome ∷ []) d

pub trace_of : {R : Type 0} (m : JobsSteps R) (keep : KeepLimits) (begun : DeskState) (waiting : List (JobId × AdmittedJob)) (r : R) (events : List ServerEvent) (s : ServerState R) → Happens m (one_desk keep begun waiting r) events s
    → (d : DeskState) × (s.desks ≡ d ∷ []) × Trace m keep begun events d
trace_of m keep begun waiting r events s happens =
    along m keep begun (Trace m keep begun) (λ events d connection access query frame started q e p was to replies. asked events d connection access query frame started q e p was to replies)
    (λ events d connection access query frame started was apart is. aside events d connection access query frame started was apart is)
    (λ events d id outcome q e p was takes here noted. ended events d id outcome e was here noted) (λ events d id outcome was apart. lost events d id outcome was apart) waiting r nothing events s happens
