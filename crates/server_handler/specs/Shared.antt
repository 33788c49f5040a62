-- The answers of a server that connections share.
use Rattle.std.specs.Prelude.{ℕ, ◌+◌, List, Option, Some, None, Result, Err}
use Rattle.credit_book.specs.declared.book.Report.{Report}
use Rattle.sessions.specs.Grammar.{Asked}
use Rattle.sessions.specs.declared.door_forms.DoorForm.{DoorForm}
use Rattle.sessions.specs.declared.door_forms.DoorForm.TheVariants as form
use Rattle.shared_desk.specs.HeardAt.{forms_at}
use Rattle.shared_desk.specs.Histories as shared
use Rattle.shared_desk.specs.declared.door.Door.{Door}
use Rattle.shared_desk.specs.declared.door.Door.TheVariants.{Port, Socket, Grants, Tenant}
use Rattle.shared_desk.specs.declared.passage.Passage.{Passage}
use Rattle.server_state.specs.Answering.{CollectsAndAnswers}
use Rattle.server_state.specs.Changing.{RecordsAll}
use Rattle.server_state.specs.Queries.{Query, plain, keyed, jobs}
use Rattle.server_state.specs.States.{JobsSteps, ServerState}
use Rattle.server_state.specs.declared.access.Access.{Access}
use Rattle.server_state.specs.declared.change.ChangeSink.{Ghosts}
use Rattle.server_state.specs.declared.job_id.JobId.{JobId}
use Rattle.server_handler.specs.Naming.{IsOwnNamed}

-- the place of a door's own desk
abbrev pub desk_behind : Door → ℕ
desk_behind Port = 0
desk_behind Socket = 0
desk_behind Grants = 0
desk_behind (Tenant number) = number + 1

-- the rights of a connection that came by this passage
abbrev pub access_of : Passage → Access
access_of passage = record {
  desk = desk_behind passage.door;
  may_grant = passage.may_grant;
  forms = forms_at passage.door;
}

-- A request, and what was asked beyond the plain protocol. The counts of the server are no request
-- of its desks.
abbrev pub query_with : Result Asked ℕ → Option DoorForm → Query
query_with asked None = plain asked
query_with asked (Some (form.Jobs from)) = jobs from
query_with asked (Some (form.Keyed key)) = keyed key asked
query_with asked (Some (form.Server stops)) = plain (Err 73)

-- The ends of jobs are collected, the query is answered by its own names, and what changes is added.
pub record AnswersShared {R C : Type 0} (m : JobsSteps R) (g : Ghosts C) (s : ServerState R × C)
    (query : shared.Query) (reply : List ℕ) (t : ServerState R × C) : Type 0 where
  pub ends : List (JobId × Result Report ℕ)
  pub asked : Result Asked ℕ
  pub named : IsOwnNamed s.0.names (access_of query.passage) query.asked asked
  pub answers : CollectsAndAnswers m s.0 (access_of query.passage)
      (query_with asked query.beyond) ends reply t.0
  pub records : RecordsAll g s.1 t.1 s.0.desks t.0.desks
