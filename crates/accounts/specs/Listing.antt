-- Which jobs a desk lists.
use Rattle.std.specs.Prelude.{ℕ, ◌+◌, ◌-◌, List, [], ◌∷◌, ◌++◌, take, drop, if◌then◌else◌, string_bytes}
use Rattle.std.specs.Str.{bytes_eq}
use Rattle.accounts.specs.declared.jobs.JobEntry.{JobEntry}
use Rattle.accounts.specs.declared.jobs.JobStanding.{JobStanding}
use Rattle.accounts.specs.declared.jobs.JobStanding.TheVariants as standing
use Rattle.accounts.specs.declared.listing.ListedJob.{ListedJob}
use Rattle.accounts.specs.declared.listing.ListedState.{ListedState}
use Rattle.accounts.specs.declared.listing.ListedState.TheVariants as listed

-- how a job stands, without its report
abbrev pub listed_state : JobStanding → ListedState
listed_state standing.Open = listed.Open
listed_state (standing.Reported report) = listed.Over
listed_state (standing.Failed code) = listed.Failed code

-- a job of this number, as it is listed; one that is nobody's, as a forgotten one is, is left out
abbrev pub listed_job : ℕ → JobEntry → List ListedJob
listed_job number entry =
    if bytes_eq (string_bytes entry.tenant) [] then []
    else record { job = number; state = listed_state entry.standing } ∷ []

-- these jobs in order, of which the first has this number
abbrev pub all_listed : ℕ → List JobEntry → List ListedJob
all_listed number [] = []
all_listed number (entry ∷ entries) = listed_job number entry ++ all_listed (number + 1) entries

-- the jobs from a number on
unfoldable pub listed_from : List JobEntry → ℕ → List ListedJob
listed_from jobs number = all_listed number (drop (number - 1) jobs)

-- how many jobs are listed at once
abbrev pub most_listed : ℕ
most_listed = 1000

-- the first of them
abbrev pub listing : List JobEntry → ℕ → List ListedJob
listing jobs number = take most_listed (listed_from jobs number)
