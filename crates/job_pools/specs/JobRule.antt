-- The rule of the register of jobs, and what its steps tell.
use Rattle.std.specs.Prelude.{◌≡◌, ℕ, true, false, List, [], ◌∷◌, Some}
use mathlib.Core.Option.{some}
use lib.ListN.{get_elem?}
use Rattle.atomic_table.specs.Table.{Me, Step}
use Rattle.atomic_table.specs.Seated.{TableId}
use Rattle.job_core.specs.Admitted.{AdmittedJob}
use Rattle.job_pools.specs.declared.job_seats.JobView.{JobView}
use Rattle.job_pools.specs.declared.job_seats.StartedJob.{StartedJob}
use Rattle.job_pools.specs.Started.{started_at}

-- the name of no table
abbrev pub no_table : TableId
no_table = record {
  words = 0;
  slots = 0;
  views_name = 0;
  atom = 0;
  block = 0;
  offset = 0;
  slot_names = [];
}

abbrev pub no_job : AdmittedJob
no_job = record { programs = []; credit = 0; buffer = [] }

-- ---- who sits where

-- a seat that knows nothing
abbrev pub nobody : JobView
nobody = record {
  is_keeper = false;
  started = [];
  is_job = false;
  number = 0;
  job = no_job;
}

-- the keeper, who knows all jobs that were started
abbrev pub keeper : List StartedJob → JobView
keeper started = record nobody { is_keeper = true; started = started }

-- the first seat
abbrev pub first_keeper : JobView
first_keeper = keeper []

-- a job
abbrev pub job_seat : ℕ → AdmittedJob → JobView
job_seat number job = record nobody { is_job = true; number = number; job = job }

-- a seat that is that of a job too, or no more
abbrev pub with_job : JobView → JobView → JobView
with_job v w = record v { is_job = w.is_job; number = w.number; job = w.job }

abbrev pub without_job : JobView → JobView
without_job v = record v { is_job = false; number = 0; job = no_job }

abbrev pub only_job : JobView → JobView
only_job v = record nobody { is_job = v.is_job; number = v.number; job = v.job }

-- ---- the rule

-- what the view at a seat says is so
pub record FitsRegister (keeper_at : ℕ) (started : List StartedJob) (seat : ℕ) (v : JobView) :
    Type 0 where
  pub keeping : v.is_keeper ≡ true → (seat ≡ keeper_at) × (v.started ≡ started)
  pub knowing : v.is_job ≡ true → started_at v.number started ≡ Some v.job

-- One seat knows all jobs that were started, and each job's seat has one of them, by its number.
pub record IsRegister (views : List JobView) : Type 0 where
  pub keeper_at : ℕ
  pub started : List StartedJob
  pub each : (seat : ℕ) (v : JobView) → get_elem? views seat ≡ some v
      → FitsRegister keeper_at started seat v

-- ---- the steps

-- the keeper enters a job under a number that no job has, and is its seat too
abbrev pub EntersJob : {S : Type 0} → (StartedJob → Type 0) → Step S → Me S JobView → ℕ
    → Me S JobView → Type 0
EntersJob allows s v found w =
    (j : StartedJob) × allows j
    × (w ≡ (with_job (keeper (j ∷ v.0.started)) (job_seat j.number j.job), v.1))

-- the keeper, as the seat of a job, knows that the job was started under its number
abbrev pub KnowsJob : {S : Type 0} → Step S → Me S JobView → ℕ → Me S JobView → Type 0
KnowsJob s v found w = (w ≡ v) × (started_at v.0.number v.0.started ≡ Some v.0.job)
