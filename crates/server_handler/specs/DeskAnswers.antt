-- Answers at one desk of a server.
use Rattle.std.specs.Prelude.{◌≡◌, ◌++◌, ℕ, List, MatchResult, Result, Ok, Err, true}
use Rattle.refusal.specs.declared.NoMemory.{NoMemory}
use Rattle.job_core.specs.Admitted.{AdmittedJob}
use Rattle.credit_book.specs.declared.board.Progress.{Progress}
use Rattle.accounts.specs.Ledgers.{Ledger}
use Rattle.accounts.specs.declared.keep_limits.KeepLimits.{KeepLimits}
use Rattle.sessions.specs.Grammar.{Asked}
use Rattle.streams.specs.Prepared.{asked_of}
use Rattle.server_state.specs.Desks.{RepliesPlainly, refusal_frame}
use Rattle.server_state.specs.Queries.{Query, plain, keyed, jobs}
use Rattle.server_state.specs.States.{DeskState, JobsSteps, id_at}
use Rattle.server_state.specs.Changing.{Leads}
use Rattle.server_state.specs.declared.change.DeskChange.{DeskChange}
use Rattle.server_state.specs.declared.change.ChangeSink.{Ghosts}
use Rattle.server_handler.specs.declared.desk_jobs.DeskJobs.{DeskJobs}
use Rattle.server_handler.specs.declared.desk_query.DeskQuery.{DeskQuery}
use Rattle.server_handler.specs.declared.desk_query.DeskQuery.TheVariants.{Plain, Keyed, Jobs}

-- a reply was decided, and is returned where there was memory for it
abbrev pub IsReply : Result (List ℕ) NoMemory → (List ℕ → Type 0) → Type 0
IsReply result decided =
    MatchResult result (λ frame. decided frame) (λ none. (frame : List ℕ) × decided frame)

-- the runner of all jobs, for the desk at a place
abbrev pub for_desk : {R : Type 0} → ℕ → R → DeskJobs R
for_desk place r = record { jobs = r; desk = place }

module _ {R : Type 0} (m : JobsSteps R) where
  -- its starts and looks
  abbrev pub desk_starts : DeskJobs R → ℕ → AdmittedJob → Result (Unit {0}) ℕ → DeskJobs R → Type 0
  desk_starts old number job started new =
      m.starts old.jobs (id_at old.desk number) job started new.jobs × (new.desk ≡ old.desk)

  abbrev pub desk_looks : DeskJobs R → ℕ → Progress → DeskJobs R → Type 0
  desk_looks old number seen new =
      m.looks old.jobs (id_at old.desk number) seen new.jobs × (new.desk ≡ old.desk)

-- A request is answered by the ledger of the desk at a place, which then forgets; or the number of a
-- refusal is returned, and nothing changes.
abbrev pub RepliesFromLedger : {R : Type 0} → JobsSteps R → ℕ → KeepLimits → Ledger → R → Result Asked ℕ
    → List ℕ → Ledger → R → Type 0
RepliesFromLedger m place keep old r (Ok asked) frame new s =
    RepliesPlainly m place keep old r asked frame new s
RepliesFromLedger m place keep old r (Err code) frame new s =
    (frame ≡ refusal_frame code) × (new ≡ old) × (s ≡ r)

-- the query of a connection, as contracts see it
abbrev pub query_asked : DeskQuery → Query
query_asked (Plain request) = plain (asked_of request)
query_asked (Keyed key submit) = keyed key (asked_of submit)
query_asked (Jobs from) = jobs from

module _ {C : Type 0} (g : Ghosts C) where
  -- what was added leads from one state of the desk at a place to another, unless a change is missing
  pub record AddsAt (place : ℕ) (before after : C) (old new : DeskState) : Type 0 where
    pub changes : List DeskChange
    pub leads : Leads place old changes new
    pub added : g.added after ≡ g.added before ++ changes

  pub record RecordsAt (place : ℕ) (before after : C) (old new : DeskState) : Type 0 where
    pub sound : g.sound after ≡ true → g.sound before ≡ true
    pub adds : g.sound after ≡ true → AddsAt place before after old new
