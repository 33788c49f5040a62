-- The reports that a desk keeps, within its limits.
use Rattle.std.specs.Prelude.{◌≡◌, ◌⊎◌, ◌≤◌, ◌<◌, ◌+◌, ◌*◌, ℕ, List, length, slice_get, Some, sum_by, true}
use Rattle.accounts.specs.declared.keep_limits.KeepLimits.{KeepLimits}
use Rattle.accounts.specs.declared.jobs.JobEntry.{JobEntry}
use Rattle.accounts.specs.declared.jobs.JobStanding.{JobStanding}
use Rattle.accounts.specs.declared.jobs.JobStanding.TheVariants.{Open, Reported, Failed}
use Rattle.accounts.specs.Jobs.{is_open, job_at}
use Rattle.accounts.specs.Forgetting.{IsGone, IsJobOver}

-- limits that bound nothing
abbrev pub keeps_all : KeepLimits
keeps_all = record { jobs = 0; bytes = 0 }

-- the bytes of a report that count for each of its tasks
abbrev pub bytes_per_task : ℕ
bytes_per_task = 40

-- the bytes that a job's report holds
abbrev pub bytes_in : JobStanding → ℕ
bytes_in Open = 0
bytes_in (Reported report) =
    length report.buffer.items + bytes_per_task * length report.tasks.items
bytes_in (Failed code) = 0

-- the bytes that the reports of all jobs hold
abbrev pub bytes_held : List JobEntry → ℕ
bytes_held jobs = sum_by (λ entry. bytes_in entry.standing) jobs

-- of so many jobs, whose reports hold so much, the one of this number is too old to be kept
abbrev pub Exceeds : KeepLimits → ℕ → ℕ → ℕ → Type 0
Exceeds limits number count held =
    ((1 ≤ limits.jobs) × (number + limits.jobs ≤ count))
    ⊎ ((1 ≤ limits.bytes) × (limits.bytes < held))

-- The last job that was forgotten was over, and had to be: it is ahead of the last jobs, or with it
-- the reports that are left would hold too much.
pub record IsNeeded (limits : KeepLimits) (old : List JobEntry) (ahead : ℕ) (new : List JobEntry) :
    Type 0 where
  pub entry : JobEntry
  pub at : job_at old ahead ≡ Some entry
  pub over : IsJobOver entry
  pub why : Exceeds limits ahead (length old) (bytes_held new + bytes_in entry.standing)

-- Each job that is over and not forgotten is one of the last. The reports hold no more than they
-- may. And no job more than that was forgotten.
pub record IsKeptWithin (limits : KeepLimits) (old : List JobEntry) (ahead : ℕ) (new : List JobEntry) :
    Type 0 where
  pub last : 1 ≤ limits.jobs → (i : ℕ) (entry : JobEntry) → slice_get new i ≡ Some entry
      → i + 1 + limits.jobs ≤ length new → (is_open entry.standing ≡ true) ⊎ IsGone entry
  pub small : 1 ≤ limits.bytes → bytes_held new ≤ limits.bytes
  pub needed : (ahead ≡ 0) ⊎ IsNeeded limits old ahead new
