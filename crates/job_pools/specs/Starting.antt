-- What the thread of a job that waits for it promises.
use Rattle.std.specs.Prelude.{◌≡◌, ℕ, Option, Some, Result}
use Rattle.std.specs.declared.thread.PromisedHandle.{PromisedHandle}
use Rattle.credit_book.specs.declared.book.Report.{Report}
use Rattle.job_pools.specs.declared.ending.EndOf.{EndOf}
use Rattle.job_pools.specs.declared.job_request.JobRequest.{JobRequest}

-- the thread promises the end of the request's own job, under its own number
abbrev pub IsStarted : JobRequest → PromisedHandle (Result Report ℕ) EndOf → Type 0
IsStarted request thread =
    (thread.promise.number ≡ request.number) × (thread.promise.job.value ≡ request.job)

-- so does each thread that may come of an request
abbrev pub StartsOwn : (JobRequest → Option (PromisedHandle (Result Report ℕ) EndOf) → Type 0)
    → Type 0
StartsOwn may_start = (request : JobRequest) (thread : PromisedHandle (Result Report ℕ) EndOf)
    → may_start request (Some thread) → IsStarted request thread
