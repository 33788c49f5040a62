-- The state of a server.
use Rattle.std.specs.Prelude.{◌≡◌, ℕ, List, Option, Result}
use Rattle.credit_book.specs.declared.book.Report.{Report}
use Rattle.credit_book.specs.declared.board.Progress.{Progress}
use Rattle.job_core.specs.Admitted.{AdmittedJob}
use Rattle.accounts.specs.Ledgers.{Ledger}
use Rattle.accounts.specs.declared.keep_limits.KeepLimits.{KeepLimits}
use Rattle.sessions.specs.declared.job_key.KeyedJob.{KeyedJob}
use Rattle.server_state.specs.declared.job_id.JobId.{JobId}
use Rattle.server_state.specs.declared.jobs.JobRunner.{Ghosts}

-- A desk: its accounts and jobs, and the keyed jobs that it remembers, oldest first.
pub record DeskState : Type 0 where
  pub ledger : Ledger
  pub keys : List KeyedJob

-- The names of the tenants that have a desk of their own; the limits of what each desk keeps; the
-- desks, first that of every other tenant, and behind it one for each name; the open jobs of an
-- earlier run that are not begun again yet; and the runner of all jobs.
pub record ServerState (R : Type 0) : Type 0 where
  pub names : List (List ℕ)
  pub keep : KeepLimits
  pub desks : List DeskState
  pub waiting : List (JobId × AdmittedJob)
  pub jobs : R

-- the steps of a runner of jobs
pub record JobsSteps (R : Type 0) : Type 1 where
  pub starts : R → JobId → AdmittedJob → Result (Unit {0}) ℕ → R → Type 0
  pub looks : R → JobId → Progress → R → Type 0
  pub takes : R → Option (JobId × Result Report ℕ) → R → Type 0

abbrev pub steps_of : {N : Type 0} → Ghosts N → JobsSteps N
steps_of g = record { starts = g.starts; looks = g.looks; takes = g.takes }

-- the same runner, whose starts all come to this
abbrev pub starting_to : {R : Type 0} → Result (Unit {0}) ℕ → JobsSteps R → JobsSteps R
starting_to outcome m = record m {
  starts = λ r id job started s. m.starts r id job started s × (started ≡ outcome);
}

abbrev pub id_at : ℕ → ℕ → JobId
id_at place number = record { desk = place; number = number }

-- the jobs went on to this runner, and nothing else changed
abbrev pub with_jobs : {R : Type 0} → ServerState R → R → ServerState R
with_jobs s r = record s { jobs = r }
