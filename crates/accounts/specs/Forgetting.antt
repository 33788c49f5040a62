-- Jobs that are forgotten.
use Rattle.std.specs.Prelude.{◌≡◌, ◌⊎◌, ◌≤◌, ◌<◌, ℕ, List, [], length, slice_get, Some, false, true, string_bytes}
use Rattle.accounts.specs.declared.jobs.JobEntry.{JobEntry}
use Rattle.accounts.specs.declared.jobs.JobStanding.TheVariants.{Failed}
use Rattle.accounts.specs.Jobs.{is_open}

-- the entry of a job that is forgotten: it is nobody's, and answers 76
pub record IsGone (entry : JobEntry) : Type 0 where
  pub tenant : string_bytes entry.tenant ≡ []
  pub credit : entry.credit ≡ 0
  pub standing : entry.standing ≡ Failed 76

-- the job is over
abbrev pub IsJobOver : JobEntry → Type 0
IsJobOver entry = is_open entry.standing ≡ false

-- Of the first so many jobs, each that is over is forgotten. Every other one is as it was.
pub record ForgetsJobs (old : List JobEntry) (ahead : ℕ) (new : List JobEntry) : Type 0 where
  pub count : length new ≡ length old
  pub gone : (i : ℕ) (entry : JobEntry) → i < ahead → slice_get old i ≡ Some entry
      → IsJobOver entry → (x : JobEntry) × (slice_get new i ≡ Some x) × IsGone x
  pub same : (i : ℕ) (entry : JobEntry) → slice_get old i ≡ Some entry
      → (ahead ≤ i) ⊎ (is_open entry.standing ≡ true) → slice_get new i ≡ Some entry
