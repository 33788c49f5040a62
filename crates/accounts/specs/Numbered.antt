-- Jobs by their numbers, of which the forgotten ones take no room.
use Rattle.std.specs.Prelude.{◌≡◌, ◌≤◌, ◌<◌, ℕ, zero, suc, List, [], ◌∷◌, ◌++◌, Option, Some, unwrap_or, true}
use Rattle.std.specs.BTreeMap as tree
use Rattle.std.specs.Ordering.{nat_cmp}
use Rattle.accounts.specs.declared.jobs.JobEntry.{JobEntry}
use Rattle.accounts.specs.declared.kept_jobs.KeptJobs.{KeptJobs}
use Rattle.accounts.specs.Jobs.{is_open}
use Rattle.accounts.specs.Forgetting.{IsGone, IsJobOver}
use Rattle.accounts.specs.Limits.{bytes_held}

-- the first so many jobs, with a gone one in the place of each that isn't there
abbrev pub listed_jobs : (ℕ → Option JobEntry) → JobEntry → ℕ → List JobEntry
listed_jobs at gone zero = []
listed_jobs at gone (suc n) = listed_jobs at gone n ++ unwrap_or (at (suc n)) gone ∷ []

-- the job of a number that isn't forgotten
abbrev pub entry_at : KeptJobs → ℕ → Option JobEntry
entry_at k = tree.get nat_cmp k.kept

abbrev pub jobs_numbered : KeptJobs → List JobEntry
jobs_numbered k = listed_jobs (entry_at k) k.gone k.count

-- as many jobs as ever
abbrev pub most_jobs : ℕ
most_jobs = 72057594037927936

-- the numbers are those of jobs, and what the reports hold is known
pub record IsSound (k : KeptJobs) : Type 0 where
  pub gone : IsGone k.gone
  pub few : k.count ≤ most_jobs
  pub numbers : (n : ℕ) (entry : JobEntry) → entry_at k n ≡ Some entry
      → (1 ≤ n) × (n ≤ k.count)
  pub held : k.held ≡ bytes_held (jobs_numbered k)

-- the job of this number is over, and all before it are open
pub record IsOldest (at : ℕ → Option JobEntry) (number : ℕ) : Type 0 where
  pub entry : JobEntry
  pub there : at number ≡ Some entry
  pub over : IsJobOver entry
  pub first : (n : ℕ) (earlier : JobEntry) → n < number → at n ≡ Some earlier
      → is_open earlier.standing ≡ true

-- no job is over
abbrev pub AreAllOpen : (ℕ → Option JobEntry) → Type 0
AreAllOpen at = (n : ℕ) (entry : JobEntry) → at n ≡ Some entry → is_open entry.standing ≡ true
