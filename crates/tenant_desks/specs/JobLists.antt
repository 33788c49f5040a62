-- The jobs that a door lists.
use Rattle.std.specs.Prelude.{ℕ, suc, zero, List, length, slice_get, Option, Some, None}
use Rattle.accounts.specs.Ledgers.{Ledger}
use Rattle.accounts.specs.Listing.{listing}
use Rattle.sessions.specs.Replies.{frame_or_refusal, jobs_data}
use Rattle.sessions.specs.declared.job_key.KeyedJob.{KeyedJob}
use Rattle.streams.specs.Answering.{refused}
use Rattle.shared_desk.specs.declared.door.Door.{Door}
use Rattle.tenant_desks.specs.Routing.{place_behind}

-- the first number that there is from here on
abbrev pub first_number : ℕ → ℕ
first_number zero = 1
first_number (suc n) = suc n

-- What a desk tells of its jobs from a number on, of which the first 1,000 are told: each job that
-- isn't forgotten, how it stands, and its key, where that is among these; and the number of the last
-- job.
unfoldable pub frame_of_jobs : Ledger → ℕ → List KeyedJob → List ℕ
frame_of_jobs desk from keys =
    frame_or_refusal (jobs_data (length desk.jobs) (listing desk.jobs (first_number from)) keys)

-- the same of the desk at a place; 74 where there is none
abbrev pub frame_of_jobs_at : Option Ledger → ℕ → List KeyedJob → List ℕ
frame_of_jobs_at (Some desk) from keys = frame_of_jobs desk from keys
frame_of_jobs_at None from keys = frame_or_refusal (refused 74)

-- the frame that tells the jobs of a door's own desk
abbrev pub jobs_frame : List Ledger → Door → ℕ → List KeyedJob → List ℕ
jobs_frame desks door from keys = frame_of_jobs_at (slice_get desks (place_behind door)) from keys
